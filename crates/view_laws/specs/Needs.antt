-- Where no trigger is needed nothing follows a step by need.
use Rattle.std.specs.Prelude.{◌≡◌, false, List}
use Rattle.std.specs.List.{list_any}
use Rattle.oz_language.specs.declared.kernel.Statement.{Statement}
use Rattle.oz_semantics.specs.Triggers.{has_needed, triggered}
use Rattle.oz_semantics.specs.declared.configuration.Layer.{Layer}

-- no trigger is needed
abbrev pub NoneNeeded : List Statement → List Layer → Type 0
NoneNeeded statements layers = list_any (has_needed statements layers) layers ≡ false

-- Then nothing follows
abbrev pub NothingFires : Type 0
NothingFires = (statements : List Statement) (layers : List Layer) → NoneNeeded statements layers → triggered statements layers ≡ layers
