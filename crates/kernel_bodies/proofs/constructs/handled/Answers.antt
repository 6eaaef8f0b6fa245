use Rattle.kernel_writer.specs.Tasks.{state_of, written, all_done}
use Rattle.oz_syntax.specs.View.{view}
use Rattle.std.proofs.Common.{ap, ◌∙◌}
use Rattle.kernel_bodies.proofs.Cases.{handles_first}
use Rattle.kernel_bodies.proofs.constructs.handled.Goals as goal

pub returns : goal.returns
returns c words =
    let w = c.args.writer.now in
    c.in_ok-handled_by.ensures words
    ∙ ap (λ m. all_done words w.tasks (written (state_of w) m)) (handles_first words (view c.in-Some.clause.now) w.numbers.next c.in-Some.ensures)
