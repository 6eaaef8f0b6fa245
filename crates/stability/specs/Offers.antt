-- Which thread offers, and what a commitment changes.
use Rattle.std.specs.Prelude.{ℕ, ◌≡◌, Bool, false, is_some, List, [], ◌∷◌, Some, None, MatchOption, position}
use Rattle.std.specs.List.{find}
use Rattle.oz_base.specs.Lists.{is_empty}
use Rattle.oz_base.specs.declared.names.Ident.{Ident}
use Rattle.oz_language.specs.declared.kernel.Statement.{Statement}
use Rattle.oz_semantics.specs.Names.{named}
use Rattle.oz_semantics.specs.Configurations.{is_numbered, in_layer, with_frames, layer_at, telling}
use Rattle.oz_semantics.specs.Sights.{Sight, Offer, offer_of}
use Rattle.oz_semantics.specs.Spaces.{sight}
use Rattle.oz_semantics.specs.Edits.{chosen, chosen_tells}
use Rattle.oz_semantics.specs.declared.value.Tell.{Tell}
use Rattle.oz_semantics.specs.declared.configuration.Frame.{Frame}
use Rattle.oz_semantics.specs.declared.configuration.Thread.{Thread}
use Rattle.oz_semantics.specs.declared.configuration.Layer.{Layer}
use Rattle.view_laws.specs.Spaceless.{plain_ready}
use Rattle.space_core.specs.Levels.{replacing}
use Rattle.stability.specs.Places.{IsFirst}
use Rattle.stability.specs.declared.offers.Choice.{Choice}
use Rattle.stability.specs.declared.offers.Choice.TheVariants.{Nothing, GoesOn, Tells}

-- a thread offers alternatives
abbrev pub offers : Sight → Thread → Bool
offers s t = is_some (offer_of (plain_ready s t))

-- The first of these threads that offers is t, at this place, with this offer
pub record IsOffered (s : Sight) (threads : List Thread) (place : ℕ) (t : Thread) (offer : Offer) : Type 0 where
  pub first : IsFirst (offers s) threads place t
  pub offered : offer_of (plain_ready s t) ≡ Some offer

-- It goes on with the i-th alternative: other statements come in the place of the one on top of its stack, and nothing is told
pub record GoesOnWith (s : Sight) (i : ℕ) (threads : List Thread) (thread : Ident) (frames : List Frame) : Type 0 where
  pub place : ℕ
  pub t : Thread
  pub offer : Offer
  pub offered : IsOffered s threads place t offer
  pub named : thread ≡ named s.space t.number
  -- no thread before it has its number
  pub numbered : position (is_numbered t.number) threads ≡ Some place
  pub stack : replacing frames t.frames ≡ chosen i t.frames offer
  pub silent : chosen_tells i (Some offer) ≡ []

-- Its stack stays, and this is told
pub record TellsOf (s : Sight) (i : ℕ) (threads : List Thread) (tell : Tell) : Type 0 where
  pub place : ℕ
  pub t : Thread
  pub offer : Offer
  pub offered : IsOffered s threads place t offer
  pub stack : chosen i t.frames offer ≡ t.frames
  pub told : chosen_tells i (Some offer) ≡ tell ∷ []

-- a thread of the space goes on with these frames, and a fact holds
abbrev pub GoesOnAs : List ℕ → Thread → Type 0 → List Frame → Choice → Type 0
GoesOnAs space t fact fs Nothing = ⊥
GoesOnAs space t fact fs (GoesOn thread frames) = (thread ≡ named space t.number) × (frames.items ≡ fs) × fact
GoesOnAs space t fact fs (Tells tell) = ⊥

-- what a commitment to the i-th alternative comes to, of a space with these threads
abbrev pub IsChoice : Sight → ℕ → List Thread → Choice → Type 0
IsChoice s i threads Nothing = find (offers s) threads ≡ None
IsChoice s i threads (GoesOn thread frames) = GoesOnWith s i threads thread frames.items
IsChoice s i threads (Tells tell) = TellsOf s i threads tell

-- the same of a space; of one that is not there, nothing
abbrev pub Commits : List Statement → List Layer → List ℕ → ℕ → Choice → Type 0
Commits statements layers space i choice =
    MatchOption (layer_at layers space) (choice ≡ Nothing) (λ l. IsChoice (sight statements layers space) i l.threads choice)

-- the space is there, and has a thread
pub record HasThread (layers : List Layer) (space : List ℕ) : Type 0 where
  pub layer : Layer
  pub there : layer_at layers space ≡ Some layer
  pub some : is_empty layer.threads ≡ false

-- what it changes
abbrev pub choice_made : List ℕ → Choice → List Layer → List Layer
choice_made space Nothing layers = layers
choice_made space (GoesOn thread frames) layers = in_layer thread.space (with_frames thread.number (replacing frames.items)) layers
choice_made space (Tells tell) layers = in_layer space (telling (tell ∷ [])) layers
