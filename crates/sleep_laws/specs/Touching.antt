-- What a single tell touches that makes no two variables equal but those that it names.
use Rattle.std.specs.Prelude.{◌≡◌, ◌⊎◌, List, [], ◌∷◌, None}
use Rattle.oz_base.specs.declared.names.Ident.{Ident}
use Rattle.oz_semantics.specs.Store.{told_value}
use Rattle.oz_semantics.specs.declared.value.Value.{Value}
use Rattle.oz_semantics.specs.declared.value.Tell.{Tell}
use Rattle.oz_semantics.specs.declared.value.Tell.TheVariants.{Equal, Is}
use Rattle.oz_laws.specs.Touched.{Touches}

-- The value of a variable to which none was told touches this alone
abbrev pub ValueTouches : Type 0
ValueTouches = (view : List Tell) (x : Ident) (v : Value) → told_value view x ≡ None → Touches view (Is x v ∷ []) (x ∷ [])

-- and an equation its two variables, where no value was told to one of them
abbrev pub EquationTouches : Type 0
EquationTouches =
    (view : List Tell) (x y : Ident) → (told_value view x ≡ None) ⊎ (told_value view y ≡ None) → Touches view (Equal x y ∷ []) (x ∷ y ∷ [])
