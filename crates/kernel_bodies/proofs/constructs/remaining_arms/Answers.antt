use Rattle.kernel_writer.specs.Tasks.{state_of, written, all_done, last_made}
use Rattle.kernel_writer.specs.Goals.{goal_of}
use Rattle.oz_syntax.specs.View.{view, views}
use Rattle.oz_language.specs.Grammar.{of_list}
use Rattle.std.proofs.Common.{ap, sym, ◌∙◌}
use Rattle.kernel_bodies.proofs.Cases.{arms_first}
use Rattle.oz_language.specs.Translation.{arms_made}
use Rattle.kernel_bodies.proofs.constructs.remaining_arms.Goals as goal

pub returns : goal.returns
returns c words =
    let w = c.args.writer.now in
    let last = last_made words (goal_of c.args.goal) c.args.last in
    c.in_ok-first_arm.ensures words
    ∙ ap (λ m. all_done words w.tasks (written (state_of w) m))
    (sym (arms_first words (goal_of c.args.goal) (view c.in-Some.arm.now) (of_list (views c.in-Some.others.now)) last w.numbers.next)
    ∙ ap (λ q. arms_made words (goal_of c.args.goal) q last w.numbers.next) (sym c.in-Some.ensures))
