-- What the queue tells of the layers, and what a step that tells nothing makes of it.
use Rattle.std.specs.Prelude.{ℕ, ◌≡◌, Bool, true, false, not, ◌&&◌, ◌||◌, List, [], ◌∷◌, ◌++◌, Contains, Option, Some, filter}
use Rattle.std.specs.List.{list_any}
use Rattle.oz_base.specs.Lists.{is_empty, holds_of}
use Rattle.oz_base.specs.declared.names.Ident.{Ident}
use Rattle.oz_language.specs.declared.kernel.Statement.{Statement}
use Rattle.oz_semantics.specs.Names.{is_below, named}
use Rattle.oz_semantics.specs.Configurations.{layer_at, view, in_layer, in_thread}
use Rattle.oz_semantics.specs.Spaces.{has_due, layers_below, goes_on}
use Rattle.oz_semantics.specs.Settling.{is_among, mover_in, queue_after, runnable_in, runnable}
use Rattle.oz_semantics.specs.declared.configuration.Frame.{Frame}
use Rattle.oz_semantics.specs.declared.configuration.Thread.{Thread}
use Rattle.oz_semantics.specs.declared.configuration.Layer.{Layer}
use Rattle.view_laws.specs.Spaceless.{has_spaces}

-- Lists of threads

-- The queue after a step holds exactly the threads that can step
abbrev pub QueueExact : Type 0
QueueExact = (ids : List Ident) (mover : Option Ident) (queue : List Ident) (id : Ident) → is_among (queue_after ids mover queue) id ≡ is_among ids id

-- no thread stands twice
abbrev pub is_once : List Ident → Bool
is_once [] = true
is_once (id ∷ ids) = not (is_among ids id) && is_once ids

-- and each once, where the thread that stepped was taken off
abbrev pub QueueOnce : Type 0
QueueOnce =
    (ids : List Ident) (mover : Option Ident) (queue : List Ident) → is_once ids ≡ true → is_once queue ≡ true → holds_of (is_among queue) mover ≡ false
    → is_once (queue_after ids mover queue) ≡ true

-- Queues of layers

-- the queue holds exactly the threads that can step
abbrev pub IsExact : List Statement → List Layer → List Ident → Type 0
IsExact statements layers queue = (id : Ident) → is_among queue id ≡ is_among (runnable statements layers) id

-- a propagator of the space or below it is due
abbrev pub is_due_below : List Layer → List ℕ → Bool
is_due_below layers space = list_any (λ (l : Layer). has_due (view layers l.space) l) (layers_below layers space)

-- Then something of a space or below it can step or is due exactly where the queue holds a thread of it or of a space below it, or a
-- propagator there is due
abbrev pub QueueTells : Type 0
QueueTells =
    (statements : List Statement) (layers : List Layer) (queue : List Ident) (space : List ℕ) → IsExact statements layers queue
    → goes_on statements layers space ≡ (list_any (λ (id : Ident). is_below space id.space) queue || is_due_below layers space)

-- A step that tells nothing

-- The layer once the thread of this number made a step that told nothing: that has another stack, new threads stand behind the others,
-- and those without statements are gone. More numbers may be given out
pub record StepsTo (number : ℕ) (before after : Layer) (news : List Thread) : Type 0 where
  pub change : List Frame → List Frame
  pub space : after.space ≡ before.space
  pub status : after.status ≡ before.status
  pub tells : after.tells ≡ before.tells
  pub threads :
      after.threads
      ≡ filter (λ (t : Thread). not (is_empty t.frames)) (in_thread number (λ (t : Thread). record t { frames = change t.frames }) before.threads ++ news)

-- no thread of the queue has the name of one of these
abbrev pub AreNew : List ℕ → List Thread → List Ident → Type 0
AreNew space news queue = (t : Thread) → Contains news t → is_among queue (named space t.number) ≡ false

-- Where no space is a value, the queue had exactly the threads that could step, each once, and the thread at its head made such a step,
-- the rest stays, and behind it come this thread and the new ones, as far as they can step
abbrev pub QuietQueue : Type 0
QuietQueue =
    (statements : List Statement) (layers : List Layer) (id : Ident) (queue : List Ident) (before after : Layer) (news : List Thread) → has_spaces layers ≡ false
    → layer_at layers id.space ≡ Some before → StepsTo id.number before after news → IsExact statements layers (id ∷ queue) → is_once (id ∷ queue) ≡ true → AreNew id.space news (id ∷ queue)
    → queue_after (runnable statements (in_layer id.space (λ l. after) layers)) (Some id) queue
    ≡ queue ++ mover_in (Some id) (runnable statements (in_layer id.space (λ l. after) layers)) ++ runnable_in statements (in_layer id.space (λ l. after) layers) (record after { threads = news })
