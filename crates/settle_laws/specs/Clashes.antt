-- A space that is told what clashes with what it sees fails, and what a space is told after spaces below it have failed (CTM 12.4;
-- Schulte 4).
use Rattle.std.specs.Prelude.{ℕ, ◌≡◌, false, List, [], ◌++◌, Some}
use Rattle.oz_semantics.specs.Store.{is_consistent}
use Rattle.oz_semantics.specs.Configurations.{layer_at, view, in_layer, telling, failed, ending}
use Rattle.oz_semantics.specs.Settling.{inconsistent_spaces, without_inconsistent}
use Rattle.oz_semantics.specs.declared.value.Tell.{Tell}
use Rattle.oz_semantics.specs.declared.configuration.Status.TheVariants.{Open}
use Rattle.oz_semantics.specs.declared.configuration.Layer.{Layer}
use Rattle.settle_laws.specs.Settles.{Settles}

-- it fails alone, with what is below it
abbrev pub ClashFails : Type 0
ClashFails =
    (space : List ℕ) (ts : List Tell) (layers : List Layer) (l : Layer) → layer_at layers space ≡ Some l → l.status ≡ Open → inconsistent_spaces layers ≡ []
    → is_consistent (view layers space ++ ts) ≡ false → without_inconsistent (in_layer space (telling ts) layers) ≡ ending space failed layers

-- what has failed below it before would have failed after
abbrev pub TellsAfter : Type 0
TellsAfter =
    (space : List ℕ) (ts : List Tell) (before after : List Layer) → Settles space before after
    → without_inconsistent (in_layer space (telling ts) after) ≡ without_inconsistent (in_layer space (telling ts) before)
