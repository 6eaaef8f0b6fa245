-- What the calls on the layers of a configuration come to.
use Rattle.std.specs.Prelude.{ℕ, ◌≡◌, Bool, true, false, List, ◌++◌, Some, Contains, slice_get, drop}
use Rattle.oz_semantics.specs.Store.{is_consistent}
use Rattle.oz_semantics.specs.Configurations.{view, in_layer, telling}
use Rattle.oz_semantics.specs.Names.{is_properly_below}
use Rattle.oz_semantics.specs.Settling.{inconsistent_spaces, without_inconsistent}
use Rattle.oz_semantics.specs.declared.value.Tell.{Tell}
use Rattle.oz_semantics.specs.declared.configuration.Frame.{Frame}
use Rattle.oz_semantics.specs.declared.configuration.Layer.{Layer}

-- what is said of the layer at a place
abbrev pub OfLayer : List Layer → ℕ → (Layer → Type 0) → Type 0
OfLayer layers place says = (l : Layer) → slice_get layers place ≡ Some l → says l

-- A space was told this, and each space below it that then sees what is inconsistent has failed.
pub record ToldTo (space : List ℕ) (ts : List Tell) (old new : List Layer) : Type 0 where
  pub left : new ≡ without_inconsistent (in_layer space (telling ts) old)
  pub consistent : is_consistent (view old space ++ ts) ≡ true
  -- no other space fails
  pub below : (t : List ℕ) → Contains (inconsistent_spaces (in_layer space (telling ts) old)) t → is_properly_below space t ≡ true

-- it was told this; or it was not, since that is inconsistent with what it sees
abbrev pub IsToldTo : List ℕ → List Tell → List Layer → List Layer → Bool → Type 0
IsToldTo space ts old new true = ToldTo space ts old new
IsToldTo space ts old new false = (new ≡ old) × (is_consistent (view old space ++ ts) ≡ false)

-- other statements in the place of the one on top of a stack
abbrev pub replacing : List Frame → List Frame → List Frame
replacing frames stack = frames ++ drop 1 stack
