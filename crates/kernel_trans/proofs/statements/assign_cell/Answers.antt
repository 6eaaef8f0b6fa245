use Rattle.kernel_writer.specs.Tasks.{state_of}
use Rattle.std.proofs.Common.{◌∙◌}
use Rattle.kernel_writer.proofs.Outcomes.{put_as, fill_on}
use Rattle.kernel_trans.proofs.Building.{assign_law}
use Rattle.kernel_writer.specs.declared.tasks.Task.TheVariants as task
use Rattle.oz_language.specs.declared.kernel.Statement.TheVariants as numbered
use Rattle.kernel_trans.proofs.statements.assign_cell.Goals as goal

pub returns : goal.returns
returns c words =
    assign_law words c.fill-2.new.self c.in_ok-cell.cell c.in_ok-cell.value c.args.left c.args.right c.args.writer.now.tasks (state_of c.args.writer.now) c.in_ok-cell.ensures.first c.in_ok-cell.ensures.second
    (fill_on c.in_ok-cell.cell c.args.left c.in_ok-fill-2.ensures.tasks (fill_on c.in_ok-cell.value c.args.right c.in_ok-fill.ensures.tasks
    (put_as c.in_ok-put.ensures.tasks (λ i. task.Statement (numbered.Call (c.assign.ensures i) (c.in_ok-two_names.ensures i))) c.in_ok-cell.ensures.tasks)))
    (c.in_ok-fill-2.ensures.state ∙ c.in_ok-fill.ensures.state ∙ c.in_ok-put.ensures.state ∙ c.in_ok-cell.ensures.state)
