use Rattle.oz_semantics.specs.Configurations.{view}
use Rattle.stability.proofs.readiness.can_step.Goals as goal

pub returns : goal.returns
returns c = λ l e. c.is_step.ensures (view c.args.levels.now l.space) _ (c.in_ok-ready.ensures l e)
