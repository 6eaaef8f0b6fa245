use Rattle.std.proofs.Common.{◌≡◌, None, take}
use Rattle.std.specs.Prelude.{position}
use Rattle.oz_semantics.specs.Propagation.{is_due}
use Rattle.space_core.proofs.ConstraintLaws.{NoneBefore}
use Rattle.space_core.proofs.constraints.first_from.Given as goal

-- none so far is due
abbrev pub invariant-rest : goal.invariant-rest
invariant-rest l = position (is_due l.store) (take l.fn.from l.propagators) ≡ None → NoneBefore (is_due l.store) l.propagators l.index
