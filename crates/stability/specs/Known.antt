-- The states of the last spaces, as they are kept.
use Rattle.std.specs.Prelude.{ℕ, ◌≡◌, ◌-◌, ◌<◌, Bool, true, false, List, [], ◌∷◌, Some, drop, length, slice_get}
use Rattle.oz_language.specs.declared.kernel.Statement.{Statement}
use Rattle.oz_semantics.specs.Sights.{States, state_in, Readiness, Steps, Waits, WaitsForState, Offers}
use Rattle.oz_semantics.specs.Spaces.{answer_in, states_behind}
use Rattle.oz_semantics.specs.declared.configuration.Frame.{Frame}
use Rattle.oz_semantics.specs.declared.configuration.Layer.{Layer}
use Rattle.oz_semantics.specs.declared.outcome.State.{State}

-- states with the names of layers, as far as both go
abbrev pub with_names : List Layer → List State → States
with_names [] sts = []
with_names (l ∷ ls) [] = []
with_names (l ∷ ls) (st ∷ sts) = (l.space, st) ∷ with_names ls sts

-- the states of as many layers at the end
abbrev pub known : List Layer → List State → States
known layers sts = with_names (drop (length layers - length sts) layers) sts

-- by either states every thread answers the same
abbrev pub Serves : List Statement → List Layer → States → States → Type 0
Serves statements layers one other = (space : List ℕ) (frames : List Frame) → answer_in statements layers one space frames ≡ answer_in statements layers other space frames

-- by the states that are kept every thread answers as by those of the spaces from a place on
abbrev pub ServesFrom : List Statement → List Layer → ℕ → List State → Type 0
ServesFrom statements layers from sts = Serves statements layers (known layers sts) (states_behind statements layers (drop from layers))

-- A state that is kept, by the place of its space
pub record KnownAt (layers : List Layer) (sts : List State) (space : List ℕ) (place : ℕ) : Type 0 where
  pub within : place < length layers
  pub named : (l : Layer) → slice_get layers place ≡ Some l → l.space ≡ space
  pub state : state_in (known layers sts) space ≡ slice_get sts (place - (length layers - length sts))

-- a thread waits for the state of a space
abbrev pub waits_for_state : Readiness → Bool
waits_for_state (WaitsForState space) = true
waits_for_state Steps = false
waits_for_state (Waits xs) = false
waits_for_state (Offers offer xs) = false
