use Rattle.kernel_writer.specs.Tasks.{state_of}
use Rattle.std.proofs.Common.{◌∙◌}
use Rattle.kernel_writer.proofs.Outcomes.{put_on, fill_on}
use Rattle.kernel_bodies.proofs.Building.{arm_law}
use Rattle.kernel_bodies.proofs.constructs.put_arm.Goals as goal

pub returns : goal.returns
returns c words =
    arm_law words c.fill.new.self c.args.goal c.in_ok-name.name c.args.condition c.args.body c.args.arms c.args.last c.args.writer.now.tasks (state_of c.args.writer.now) c.in_ok-name.ensures.name
    (fill_on c.in_ok-name.name c.args.condition c.in_ok-fill.ensures.tasks (put_on c.in_ok-put-5.ensures.tasks (put_on c.in_ok-put-4.ensures.tasks (put_on c.in_ok-put-3.ensures.tasks (put_on c.in_ok-put-2.ensures.tasks (put_on c.in_ok-put.ensures.tasks c.in_ok-name.ensures.tasks))))))
    (c.in_ok-fill.ensures.state ∙ c.in_ok-put-5.ensures.state ∙ c.in_ok-put-4.ensures.state ∙ c.in_ok-put-3.ensures.state ∙ c.in_ok-put-2.ensures.state ∙ c.in_ok-put.ensures.state ∙ c.in_ok-name.ensures.state)
