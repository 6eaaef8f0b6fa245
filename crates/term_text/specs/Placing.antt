-- The classes of the records that are open, each by the place of its value.
use Rattle.std.specs.Prelude.{ℕ, ◌≡◌, List, map, Some}
use Rattle.oz_base.specs.declared.names.Ident.{Ident}
use Rattle.oz_semantics.specs.declared.value.Tell.{Tell}
use Rattle.term_store.specs.Places.{value_place}

-- the classes of these variables have values, and these are their places
abbrev pub ArePlaced : List Tell → List Ident → List ℕ → Type 0
ArePlaced view xs places = map (value_place view) xs ≡ map (λ (p : ℕ). Some p) places
