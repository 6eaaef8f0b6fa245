use Rattle.std.proofs.Common.{◌≡◌, map, take}
use Rattle.renamings.specs.Renames.{ident_by}
use Rattle.renamings.specs.declared.given.Kind.TheVariants as kind
use Rattle.renamed_terms.proofs.values.are_kept.Given as goal

-- those so far keep their names
abbrev pub invariant-loop-variable : goal.invariant-loop-variable
invariant-loop-variable l = map (ident_by kind.Variable l.by) (take l.variable-index l.variables) ≡ take l.variable-index l.variables
