use Rattle.std.proofs.Common.{◌≡◌, drop}
use Rattle.std.specs.List.{filter_map}
use Rattle.oz_base.specs.Lists.{first}
use Rattle.builtins.specs.Tables.{row_of, called}
use Rattle.builtins.proofs.table.first_called.Given as goal

-- those passed so far do not have the name
abbrev pub invariant-loop-row : goal.invariant-loop-row
invariant-loop-row l =
    first (filter_map (λ r. called l.name (row_of r)) (drop l.row-index l.rows)) ≡ first (filter_map (λ r. called l.name (row_of r)) l.rows)
