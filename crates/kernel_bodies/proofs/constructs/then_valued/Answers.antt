use Rattle.kernel_writer.specs.Tasks.{state_of}
use Rattle.std.proofs.Common.{refl, ◌∙◌}
use Rattle.kernel_writer.proofs.Outcomes.{put_on}
use Rattle.kernel_bodies.proofs.Building.{valued_law}
use Rattle.kernel_bodies.proofs.constructs.then_valued.Goals as goal

pub returns : goal.returns
returns c words =
    valued_law words c.put-2.new.self c.args.name c.args.phrase c.args.phrases c.args.writer.now.tasks (state_of c.args.writer.now)
    (put_on c.in_ok-put-2.ensures.tasks (put_on c.in_ok-put.ensures.tasks refl))
    (c.in_ok-put-2.ensures.state ∙ c.in_ok-put.ensures.state)
