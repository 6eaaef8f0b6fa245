use Rattle.space_core.proofs.FiringLaws.{begun_as}
use Rattle.space_core.proofs.firing.begin.Goals as goal

pub returns-clause-ok : goal.returns-clause-ok
returns-clause-ok c = begun_as c.spawn.result _ c.args.trigger.now _ _ c.in_ok-frames.ensures c.spawn.ensures.ok
