use Rattle.kernel_writer.specs.Tasks.{state_of, written, all_done}
use Rattle.oz_syntax.specs.View.{view}
use Rattle.std.proofs.Common.{ap, ◌∙◌}
use Rattle.kernel_values.proofs.Steps.{chain_then, chain_alone}
use Rattle.kernel_values.proofs.expressions.first_link.Goals as goal

pub returns : goal.returns
returns c words =
    let w = c.args.writer.now in
    c.in_ok-links.ensures words
    ∙ ap (λ m. all_done words w.tasks (written (state_of w) m)) (chain_then words c.args.name (view c.args.element.now) w.numbers.next c.in-Some.ensures)

pub returns-in_default : goal.returns-in_default
returns-in_default c words =
    let w = c.args.writer.now in
    c.in_ok-value_of.ensures words
    ∙ ap (λ m. all_done words w.tasks (written (state_of w) m)) (chain_alone words c.args.name (view c.args.element.now) w.numbers.next c.in_default.ensures)
