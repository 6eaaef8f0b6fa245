-- What a view and what is told besides have to do with each other, by the variables that the latter touches.
use Rattle.std.specs.Prelude.{◌≡◌, ◌⊎◌, true, false, is_some, List, ◌++◌, Contains}
use Rattle.oz_base.specs.declared.names.Ident.{Ident}
use Rattle.oz_base.specs.declared.interval.Interval.{Interval}
use Rattle.oz_semantics.specs.Store.{Same, told_value, is_news}
use Rattle.oz_semantics.specs.declared.value.Value.{Value}
use Rattle.oz_semantics.specs.declared.value.Tell.{Tell}
use Rattle.oz_semantics.specs.declared.value.Tell.TheVariants.{Is, Within}

-- a variable is equal to one of the list
abbrev pub Meets : List Tell → List Ident → Ident → Type 0
Meets view touched x = (t : Ident) × Contains touched t × Same view x t

-- The list meets the class of each variable that by what is told besides becomes equal to another, or is told a value and was told
-- none before, or is told a domain that it did not keep to before
pub record Touches (before more : List Tell) (touched : List Ident) : Type 0 where
  pub joins : (x y : Ident) → Same (before ++ more) x y → Same before x y ⊎ Meets before touched x
  pub binds : (x : Ident) (v : Value) → Contains more (Is x v) → (is_some (told_value before x) ≡ true) ⊎ Meets before touched x
  pub narrows : (x : Ident) (is : List Interval) → Contains more (Within x is) → (is_news before (Within x is) ≡ false) ⊎ Meets before touched x
