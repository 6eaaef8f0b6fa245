use Rattle.std.proofs.Common.{◌≡◌, take}
use Rattle.oz_semantics.specs.Propagation.{noted}
use Rattle.propagation.proofs.due.seen.Given as goal

abbrev pub invariant-loop-variable : goal.invariant-loop-variable
invariant-loop-variable l = l.domains.items ≡ noted l.store (take l.variable-index l.variables)
