-- What rows of entries hold at a name.
use Rattle.std.specs.Prelude.{if◌then◌else◌, List, [], ◌∷◌, Option, None}
use Rattle.std.specs.Ordering.{nat_cmp}
use Rattle.std.specs.FinMap as map
use Rattle.oz_base.specs.Lists.{list_eq}
use Rattle.oz_base.specs.declared.names.Ident.{Ident}
use Rattle.ident_map.specs.declared.map.Row.{Row}

-- the entry in the first row of the name's space
abbrev pub entry : {V : Type 0} → List (Row V) → Ident → Option V
entry [] x = None
entry (row ∷ rows) x = if list_eq row.space x.space then map.get row.entries x.number else entry rows x

-- the top's entries as the first row
abbrev pub with_top : {V : Type 0} → map.FinMap nat_cmp V → List (Row V) → List (Row V)
with_top top others = record { space = []; entries = top } ∷ others
