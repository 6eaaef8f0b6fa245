use Rattle.kernel_writer.specs.Tasks.{state_of}
use Rattle.std.proofs.Common.{◌∙◌}
use Rattle.kernel_values.proofs.Steps.{and_law}
use Rattle.kernel_writer.proofs.Outcomes.{put_on, fill_on}
use Rattle.kernel_values.proofs.expressions.and_then.Goals as goal

pub returns : goal.returns
returns c words =
    and_law words c.fill.new.self c.args.name c.in_ok-condition.condition c.args.left c.args.right c.args.writer.now.tasks (state_of c.args.writer.now) c.in_ok-condition.ensures.name
    (fill_on c.in_ok-condition.condition c.args.left c.in_ok-fill.ensures.tasks (put_on c.in_ok-put-3.ensures.tasks (put_on c.in_ok-put_value.ensures.tasks (put_on c.in_ok-put-2.ensures.tasks (put_on c.in_ok-put_truth.ensures.tasks (put_on c.in_ok-put.ensures.tasks c.in_ok-condition.ensures.tasks))))))
    (c.in_ok-fill.ensures.state ∙ c.in_ok-put-3.ensures.state ∙ c.in_ok-put_value.ensures.state ∙ c.in_ok-put-2.ensures.state ∙ c.in_ok-put_truth.ensures.state ∙ c.in_ok-put.ensures.state ∙ c.in_ok-condition.ensures.state)
