use Rattle.alone_laws.proofs.AloneTurns.{steps_alone, propagates_alone}
use Rattle.alone_laws.proofs.AloneRests.{rests_alone, rests_at_runs}
use Rattle.alone_laws.proofs.alone_law.Goals as goal

pub returns : goal.returns
returns c = record { steps = steps_alone; rests = rests_alone; propagates = propagates_alone; rests_at_runs = rests_at_runs }
