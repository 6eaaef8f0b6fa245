use Rattle.kernel_writer.specs.Tasks.{state_of}
use Rattle.oz_syntax.specs.View.{view}
use Rattle.oz_language.specs.Translation.{references}
use Rattle.std.proofs.Common.{refl, ◌∙◌}
use Rattle.kernel_writer.proofs.Outcomes.{put_on}
use Rattle.kernel_trans.proofs.Building.{two_law}
use Rattle.kernel_writer.specs.declared.tasks.Task.TheVariants as task
use Rattle.kernel_trans.proofs.statements.both_references.Goals as goal

pub returns : goal.returns
returns c words =
    let w = c.args.writer.now in
    two_law words c.put-2.new.self (task.References c.args.first c.args.left) (task.References c.args.second c.args.right) w.tasks (state_of w)
    (references words c.args.first.next (view c.args.left.now) w.numbers.next) (λ i. references words c.args.second.next (view c.args.right.now) i) refl refl
    (put_on c.in_ok-put-2.ensures.tasks (put_on c.in_ok-put.ensures.tasks refl))
    (c.in_ok-put-2.ensures.state ∙ c.in_ok-put.ensures.state)
