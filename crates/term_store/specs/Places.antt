-- The places of values among those of their class.
use Rattle.std.specs.Prelude.{ℕ, ◌≡◌, ◌↔◌, Bool, IsTrue, List, Option, Some, None, is_some, position, slice_get}
use Rattle.std.specs.Option.{option_and_then}
use Rattle.oz_base.specs.declared.names.Ident.{Ident}
use Rattle.oz_semantics.specs.Store.{same, value_given, told_value}
use Rattle.oz_semantics.specs.declared.value.Value.{Value}
use Rattle.oz_semantics.specs.declared.value.Tell.{Tell}
use Rattle.oz_semantics.specs.declared.value.Tell.TheVariants.{Equal, Is, Within}

abbrev pub value_told : Option Tell → Option Value
value_told None = None
value_told (Some (Equal x y)) = None
value_told (Some (Is x v)) = Some v
value_told (Some (Within x is)) = None

-- the value that is told at a place
abbrev pub value_at : List Tell → ℕ → Option Value
value_at ts place = value_told (slice_get ts place)

-- whether a tell gives the class of a variable a value
abbrev pub gives_value : List Tell → Ident → Tell → Bool
gives_value ts x t = is_some (value_given (λ y. same ts y x) t)

-- the place of the first value that was told of the class of a variable
abbrev pub value_place : List Tell → Ident → Option ℕ
value_place ts x = position (gives_value ts x) ts

-- variables whose classes have values are equal exactly where these places are
abbrev pub PlacesTellApart : Type 0
PlacesTellApart = (ts : List Tell) (x y : Ident) (p q : ℕ) → value_place ts x ≡ Some p → value_place ts y ≡ Some q → IsTrue (same ts x y) ↔ (p ≡ q)

-- the value that was told of a variable's class is that at the place
abbrev pub PlacesTellValues : Type 0
PlacesTellValues = (ts : List Tell) (x : Ident) → told_value ts x ≡ option_and_then (λ p. value_told (slice_get ts p)) (value_place ts x)
