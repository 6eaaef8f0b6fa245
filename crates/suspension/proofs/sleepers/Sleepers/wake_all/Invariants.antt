use Rattle.std.proofs.Common.{take}
use Rattle.suspension.specs.Changes.{Waking}
use Rattle.suspension.specs.Sleeping.{AreKeys}
use Rattle.suspension.proofs.sleepers.Sleepers.wake_all.Given as goal

-- those that wait for a variable that was passed are woken
abbrev pub invariant-loop-variable : goal.invariant-loop-variable
invariant-loop-variable l = AreKeys l.store l.initial.self → Waking l.store (take l.variable-index l.touched) l.initial.self l.self l.woken.items
