-- Where no trigger is needed nothing follows a step by need.
use Rattle.std.proofs.Common.{◌≡◌, ℕ, zero, suc, if◌then◌else◌, Bool, List, map, refl, ap}
use Rattle.std.specs.List.{sum_by}
use Rattle.std.specs.Prelude.{length}
use Rattle.oz_language.specs.declared.kernel.Statement.{Statement}
use Rattle.oz_semantics.specs.Triggers.{fired, fired_for}
use Rattle.oz_semantics.specs.declared.configuration.Layer.{Layer}
use Rattle.view_laws.specs.Needs.{NoneNeeded, NothingFires}

nothing_for : (statements : List Statement) (n : ℕ) (layers : List Layer) → NoneNeeded statements layers → fired_for statements n layers ≡ layers
unfolding fired_for
nothing_for statements zero layers none = refl
nothing_for statements (suc n) layers none = ap (λ (b : Bool). if b then fired_for statements n (map (fired statements layers) layers) else layers) none

pub nothing_fires : NothingFires
nothing_fires statements layers none = nothing_for statements (sum_by (λ (l : Layer). length l.triggers) layers) layers none
