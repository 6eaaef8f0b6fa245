use Rattle.std.proofs.Common.{List, take}
use Rattle.oz_semantics.specs.declared.configuration.Propagator.{Propagator}
use Rattle.watching.specs.Lists.{AreWatched}
use Rattle.watching.specs.Watching.{AreKeys, AreApart}
use Rattle.watching.proofs.keys.Keys.watch_all.Given as goal

-- those that were passed are watched
abbrev pub invariant-loop-variable : goal.invariant-loop-variable
invariant-loop-variable l =
    (ps : List Propagator) → AreKeys l.store ps l.initial.self → AreApart l.store l.initial.self
    → AreWatched l.store ps (take l.variable-index l.variables) l.index l.initial.self l.self
