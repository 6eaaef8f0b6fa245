use Rattle.std.proofs.Common.{List, [], take, drop}
use Rattle.oz_semantics.specs.Store.{View}
use Rattle.oz_semantics.specs.declared.configuration.Propagator.{Propagator}
use Rattle.watching.specs.Changes.{Rejoins}
use Rattle.watching.proofs.watched.Watched.rejoin_all.Given as goal

-- those that were passed are done
abbrev pub invariant-loop-variable : goal.invariant-loop-variable
invariant-loop-variable l =
    (old : View) (ps : List Propagator) → Rejoins old l.store ps [] l.noted l.initial.self
    → Rejoins old l.store ps (take l.variable-index l.noted) (drop l.variable-index l.noted) l.self
