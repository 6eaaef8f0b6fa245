use Rattle.std.proofs.Common.{◌≡◌, ◌++◌, drop}
use Rattle.oz_semantics.specs.Propagation.{narrowed}
use Rattle.propagation.proofs.runs.confinements.Given as goal

abbrev pub invariant-loop-i : goal.invariant-loop-i
invariant-loop-i l = l.tells.items ++ narrowed (drop l.i l.variables) (drop l.i l.domains) ≡ narrowed l.variables l.domains
