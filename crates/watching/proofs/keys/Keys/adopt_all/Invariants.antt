use Rattle.std.proofs.Common.{List}
use Rattle.oz_semantics.specs.declared.configuration.Propagator.{Propagator}
use Rattle.term_store.specs.Classes.{IsPartition}
use Rattle.watching.specs.Lists.{AreRooted}
use Rattle.watching.proofs.keys.Keys.adopt_all.Given as goal

-- the keys stay right
abbrev pub invariant-loop-tell : goal.invariant-loop-tell
invariant-loop-tell l =
    (ps : List Propagator) → IsPartition l.store l.classes → AreRooted l.store ps l.classes l.tells l.initial.self
    → AreRooted l.store ps l.classes l.tells l.self
