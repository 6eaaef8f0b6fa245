use Rattle.std.proofs.Common.{◌≡◌, length, drop}
use Rattle.oz_semantics.specs.Propagation.{all_eq, noted}
use Rattle.propagation.proofs.due.are_as_seen.Given as goal

abbrev pub invariant-loop-i : goal.invariant-loop-i
invariant-loop-i l = (length l.seen ≡ length l.variables) × (all_eq (drop l.i l.seen) (noted l.store (drop l.i l.variables)) ≡ all_eq l.seen (noted l.store l.variables))
