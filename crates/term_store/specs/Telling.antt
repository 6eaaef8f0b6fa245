-- What telling a store comes to.
use Rattle.std.specs.Prelude.{◌≡◌, Bool, true, false, List, ◌++◌}
use Rattle.oz_base.specs.declared.names.Ident.{Ident}
use Rattle.oz_semantics.specs.Store.{is_consistent}
use Rattle.oz_semantics.specs.declared.value.Tell.{Tell}
use Rattle.oz_laws.specs.Touched.{Touches}

-- these come to the list of variables, and are touched by what is told besides
pub record Notes (old tells : List Tell) (before after : List Ident) : Type 0 where
  pub more : List Ident
  pub noted : after ≡ before ++ more
  pub touches : Touches old tells more

-- it was told all of this, and what that touches was noted; or what it was to be told is inconsistent with what it was told before,
-- and it is as it was
abbrev pub IsTold : List Tell → List Tell → List Tell → List Ident → List Ident → Bool → Type 0
IsTold old tells new before after true = (new ≡ old ++ tells) × (is_consistent (old ++ tells) ≡ true) × Notes old tells before after
IsTold old tells new before after false = (new ≡ old) × (is_consistent (old ++ tells) ≡ false)
