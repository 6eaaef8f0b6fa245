use Rattle.std.proofs.Common.{take}
use Rattle.suspension.specs.Sleeping.{FallsAsleep}
use Rattle.suspension.proofs.sleepers.Sleepers.fall_asleep.Given as goal

-- the thread waits for those that were passed
abbrev pub invariant-loop-variable : goal.invariant-loop-variable
invariant-loop-variable l = FallsAsleep l.store l.number (take l.variable-index l.variables) l.initial.self l.self
