use Rattle.std.proofs.Common.{◌≡◌, take}
use Rattle.std.specs.List.{list_any}
use Rattle.oz_base.specs.Names.{ident_eq}
use Rattle.oz_base.specs.declared.names.Ident.{Ident}
use Rattle.tree_equal.specs.Grown.{has_grown}
use Rattle.tree_equal.proofs.affected.grown.Given as goal

-- those so far
abbrev pub invariant-loop-variable : goal.invariant-loop-variable
invariant-loop-variable l = (z : Ident) → list_any (ident_eq z) l.grown.keys ≡ has_grown l.store l.after (take l.variable-index l.touched) z
