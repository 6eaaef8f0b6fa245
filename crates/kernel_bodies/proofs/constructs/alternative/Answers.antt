use Rattle.kernel_writer.specs.Tasks.{state_of}
use Rattle.std.proofs.Common.{◌∙◌}
use Rattle.kernel_writer.proofs.Outcomes.{put_on}
use Rattle.kernel_bodies.proofs.Building.{alternative_law}
use Rattle.kernel_bodies.proofs.constructs.alternative.Goals as goal

pub returns : goal.returns
returns c words =
    alternative_law words c.put-2.new.self c.args.goal c.args.bodies c.args.phrase c.args.phrases c.args.writer.now.tasks (state_of c.args.writer.now)
    (put_on c.in_ok-put-2.ensures.tasks (put_on c.in_ok-put.ensures.tasks c.in_ok-begin.ensures.tasks))
    (c.in_ok-put-2.ensures.state ∙ c.in_ok-put.ensures.state ∙ c.in_ok-begin.ensures.state)
