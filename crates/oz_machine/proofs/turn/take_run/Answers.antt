use Rattle.std.proofs.Common.{refl}
use Rattle.oz_machine.proofs.PropagatingLaws.{dear_run}
use Rattle.oz_machine.proofs.turn.take_run.Goals as goal

pub returns-then-fuel-eq0-clause-turn : goal.returns-then-fuel-eq0-clause-turn
returns-then-fuel-eq0-clause-turn c = (dear_run c.args.kernel.now c.args.course.now c.args.due c.args.fuel c.requires.due c.requires.least c.if-fuel-eq0.true, refl)
