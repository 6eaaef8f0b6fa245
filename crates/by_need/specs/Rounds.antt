-- Rounds of by-need computations that begin.
use Rattle.std.specs.Prelude.{◌≡◌, Bool, true, false, List, [], ◌∷◌, Option, Some, None, map}
use Rattle.std.specs.List.{list_any}
use Rattle.oz_language.specs.declared.kernel.Statement.{Statement}
use Rattle.oz_semantics.specs.Triggers.{has_needed, fired}
use Rattle.oz_semantics.specs.declared.configuration.Layer.{Layer}
use Rattle.space_core.specs.Firing.{firing}

abbrev pub is_mark : Bool → Bool
is_mark mark = mark

-- in each layer the triggers that its marks name begin
abbrev pub fire_each : List (List Bool) → List Layer → List Layer
fire_each [] layers = layers
fire_each (marks ∷ more) [] = []
fire_each (marks ∷ more) (l ∷ layers) = firing marks l ∷ fire_each more layers

-- what a round leaves; or no trigger is needed
abbrev pub IsRound : List Statement → List Layer → Option (List Layer) → Type 0
IsRound statements layers None = list_any (has_needed statements layers) layers ≡ false
IsRound statements layers (Some after) = (list_any (has_needed statements layers) layers ≡ true) × (after ≡ map (fired statements layers) layers)
