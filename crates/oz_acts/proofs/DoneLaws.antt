-- What was told, as an effect.
use Rattle.std.proofs.Common.{◌≡◌, Bool, true, false, List, subst}
use Rattle.std.specs.Prelude.{Result, Ok, Err, IfOk}
use Rattle.std.specs.declared.alloc.AllocError.{AllocError}
use Rattle.oz_base.specs.declared.names.Ident.{Ident}
use Rattle.oz_semantics.specs.Changes.{Change}
use Rattle.oz_semantics.specs.Effects.{Tells}
use Rattle.oz_semantics.specs.declared.value.Tell.{Tell}
use Rattle.oz_semantics.specs.declared.configuration.Layer.{Layer}
use Rattle.space_core.specs.Advances.{IsAdvanced}
use Rattle.oz_acts.specs.Doings.{IsDone}

-- what was told is such an effect
pub tells_done : (id : Ident) (ts us : List Tell) (changes more : List Change) (old new : List Layer) (r : Result Bool AllocError) → ts ≡ us → changes ≡ more
    → IfOk r (IsAdvanced id ts changes old new) → IfOk r (IsDone id (Tells us more) old new)
tells_done id ts us changes more old new (Ok true) e f h =
    subst (λ (vs : List Tell). IsAdvanced id vs more old new true) e (subst (λ (cs : List Change). IsAdvanced id ts cs old new true) f h)
tells_done id ts us changes more old new (Ok false) e f h =
    subst (λ (vs : List Tell). IsAdvanced id vs more old new false) e (subst (λ (cs : List Change). IsAdvanced id ts cs old new false) f h)
tells_done id ts us changes more old new (Err fault) e f h = h
