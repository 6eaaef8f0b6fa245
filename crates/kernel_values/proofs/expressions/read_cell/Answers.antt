use Rattle.kernel_writer.specs.Tasks.{state_of}
use Rattle.std.proofs.Common.{◌∙◌}
use Rattle.kernel_values.proofs.Steps.{access_law}
use Rattle.kernel_writer.proofs.Outcomes.{put_as, fill_on}
use Rattle.kernel_writer.specs.declared.tasks.Task.TheVariants as task
use Rattle.oz_language.specs.declared.kernel.Statement.TheVariants as numbered
use Rattle.kernel_values.proofs.expressions.read_cell.Goals as goal

pub returns : goal.returns
returns c words =
    access_law words c.fill.new.self c.args.name c.in_ok-part.part c.args.cell c.args.writer.now.tasks (state_of c.args.writer.now) c.in_ok-part.ensures.name
    (fill_on c.in_ok-part.part c.args.cell c.in_ok-fill.ensures.tasks (put_as c.in_ok-put.ensures.tasks (λ i. task.Statement (numbered.Call (c.access.ensures i) (c.in_ok-two_names.ensures i))) c.in_ok-part.ensures.tasks))
    (c.in_ok-fill.ensures.state ∙ c.in_ok-put.ensures.state ∙ c.in_ok-part.ensures.state)
