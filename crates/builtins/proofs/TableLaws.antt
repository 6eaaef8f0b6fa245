-- The table as it is in the definitions.
use Rattle.std.proofs.Common.{◌≡◌, ◌∷◌, [], ℕ, refl, ap, sym, ◌∙◌, List, Option, map}
use Rattle.std.specs.List.{filter_map, cons_option}
use Rattle.oz_base.specs.Lists.{first}
use Rattle.oz_semantics.specs.Builtins.{rows}
use Rattle.oz_semantics.specs.declared.value.Builtin.{Builtin}
use Rattle.builtins.specs.Tables.{row_of, called, named_builtin}
use Rattle.builtins.specs.declared.table.Row.{Row}

-- one by one
called_rows : (name : List ℕ) (rs : List Row) → filter_map (called name) (map row_of rs) ≡ filter_map (λ r. called name (row_of r)) rs
called_rows name [] = refl
called_rows name (r ∷ rs) = ap (cons_option (called name (row_of r))) (called_rows name rs)

pub finds : (name : List ℕ) (rs : List Row) (found : Option Builtin) → map row_of rs ≡ rows → found ≡ first (filter_map (λ r. called name (row_of r)) rs) → found ≡ named_builtin name
finds name rs found is e = e ∙ ap first (sym (called_rows name rs)) ∙ ap (λ these. first (filter_map (called name) these)) is
