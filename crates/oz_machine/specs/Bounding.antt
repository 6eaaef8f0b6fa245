-- Spaces that may be told a bound, and bounds below which nothing is.
use Rattle.std.specs.Prelude.{◌≡◌, ◌<◌, ℕ, ℤ, int_le, Bool, false, List, Option, None, Some, length, position}
use Rattle.oz_base.specs.declared.interval.TheConstants.{LEAST_VALUE}
use Rattle.oz_semantics.specs.Configurations.{is_of, layer_of}
use Rattle.oz_semantics.specs.declared.configuration.Layer.{Layer}
use Rattle.oz_semantics.specs.declared.configuration.Status.TheVariants.{Open}

-- a space stands at this place, and has not ended
pub record IsOpenAt (layers : List Layer) (space : List ℕ) (place : ℕ) : Type 0 where
  pub within : place < length layers
  pub stands : Some place ≡ position (is_of space) layers
  pub opened : (layer_of layers space).status ≡ Open

-- no domain value is below the bound
abbrev pub allows_none : Option ℤ → Bool
allows_none None = false
allows_none (Some bound) = int_le bound LEAST_VALUE
