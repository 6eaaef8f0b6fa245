-- What is news of an interval that variables are told.
use Rattle.std.specs.Prelude.{◌≡◌, ℕ, Bool, is_some, not, ◌&&◌, ◌||◌, if◌then◌else◌, List, [], ◌∷◌, ◌++◌}
use Rattle.std.specs.List.{list_any}
use Rattle.ident_map.specs.Entries.{entry}
use Rattle.ident_map.specs.declared.map.Row.{Row}
use Rattle.oz_base.specs.Names.{ident_eq}
use Rattle.oz_base.specs.declared.names.Ident.{Ident}
use Rattle.oz_base.specs.declared.interval.Interval.{Interval}
use Rattle.oz_semantics.specs.Store.{View, same, told_value, is_news}
use Rattle.oz_semantics.specs.declared.value.Tell.TheVariants.{Within}
use Rattle.term_store.specs.Classes.{Table, root_in}

-- it is news of x, after these were told it: of their classes only where there is a value that it is told against
abbrev pub is_chosen : View → Interval → List Ident → Ident → Bool
is_chosen view i ones x = is_news view (Within x (i ∷ [])) && (is_some (told_value view x) || not (list_any (same view x) ones))

-- the variables that are told it, after these
abbrev pub told_ones : View → Interval → List Ident → List Ident → List Ident
told_ones view i ones [] = ones
told_ones view i ones (x ∷ xs) = told_ones view i (if is_chosen view i ones x then ones ++ x ∷ [] else ones) xs

-- the classes of these are marked, by the variables that stand for them
abbrev pub Marks : Table → List Ident → List (Row ℕ) → Type 0
Marks t ones marks = (y : Ident) → is_some (entry marks y) ≡ list_any (λ z. ident_eq (root_in t z) y) ones
