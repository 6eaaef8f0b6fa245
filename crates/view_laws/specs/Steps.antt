-- Steps that tell nothing, in the words of the machine: what they leave of the layers, and what follows them.
use Rattle.std.specs.Prelude.{ℕ, ◌≡◌, ◌+◌, ◌<◌, ◌≤◌, true, false, ◌&&◌, List, [], ◌∷◌, ◌++◌, Contains, Some, is_some, length, map}
use Rattle.oz_base.specs.Lists.{holds_of}
use Rattle.oz_base.specs.declared.names.Ident.{Ident}
use Rattle.oz_language.specs.declared.kernel.Statement.{Statement}
use Rattle.oz_semantics.specs.Configurations.{layer_at, thread_at, is_open, in_layer, with_frames, without_terminated}
use Rattle.oz_semantics.specs.Sights.{can_step}
use Rattle.oz_semantics.specs.Spaces.{thread_ready}
use Rattle.oz_semantics.specs.Changes.{Change, GivesOut, CountsProcedure, CountsName, Pushes, Spawns, AddsCell, Holds, AddsPort, EndsAt, AddsTrigger, AddsPropagator, changed_all}
use Rattle.oz_semantics.specs.Settling.{Turned, is_inconsistent, is_among, mover_in, runnable_in, runnable, settled}
use Rattle.oz_semantics.specs.Steps.{without_top, went_on}
use Rattle.oz_semantics.specs.declared.configuration.Frame.{Frame}
use Rattle.oz_semantics.specs.declared.configuration.Thread.{Thread}
use Rattle.oz_semantics.specs.declared.configuration.Layer.{Layer}
use Rattle.oz_semantics.specs.declared.configuration.Configuration.{Configuration}
use Rattle.oz_semantics.specs.declared.outcome.Stepped.TheVariants.{Moved}
use Rattle.view_laws.specs.Trees.{is_ascending, names_of}
use Rattle.view_laws.specs.Spaceless.{has_spaces}
use Rattle.view_laws.specs.Needs.{NoneNeeded}
use Rattle.view_laws.specs.Queues.{is_once, IsExact, StepsTo, AreNew}

-- What the changes of a step make

-- the new threads of these changes, by their numbers from n on
abbrev pub spawned_from : ℕ → List Change → List Thread
spawned_from n [] = []
spawned_from n (Spawns frames ∷ changes) = record { number = n; frames = frames } ∷ spawned_from (n + 1) changes
spawned_from n (Pushes frames ∷ changes) = spawned_from n changes
spawned_from n (GivesOut count ∷ changes) = spawned_from n changes
spawned_from n (CountsProcedure ∷ changes) = spawned_from n changes
spawned_from n (CountsName ∷ changes) = spawned_from n changes
spawned_from n (AddsCell content ∷ changes) = spawned_from n changes
spawned_from n (Holds number content ∷ changes) = spawned_from n changes
spawned_from n (AddsPort end ∷ changes) = spawned_from n changes
spawned_from n (EndsAt number end ∷ changes) = spawned_from n changes
spawned_from n (AddsTrigger procedure variable ∷ changes) = spawned_from n changes
spawned_from n (AddsPropagator relation variables ∷ changes) = spawned_from n changes

-- the layers are those before but for one, which is what such a step of the thread makes of it
pub record MadeOf (id : Ident) (layers result : List Layer) (before : Layer) (news : List Thread) : Type 0 where
  pub after : Layer
  pub left : result ≡ in_layer id.space (λ l. after) layers
  pub steps : StepsTo id.number before after news
  pub next : after.next.thread ≡ before.next.thread + length news
  pub children : after.next.child ≡ before.next.child

-- A thread that is there takes its statement off its stack, and makes changes
abbrev pub ChangesMade : Type 0
ChangesMade =
    (id : Ident) (changes : List Change) (layers : List Layer) (before : Layer) → layer_at layers id.space ≡ Some before → is_some (thread_at before.threads id.number) ≡ true
    → MadeOf id layers (in_layer id.space without_terminated (changed_all id changes (without_top id layers))) before (spawned_from before.next.thread changes)

-- or goes on with another stack, as where a mark takes an exception
abbrev pub StackMade : Type 0
StackMade =
    (id : Ident) (frames : List Frame) (layers : List Layer) (before : Layer) → layer_at layers id.space ≡ Some before → is_some (thread_at before.threads id.number) ≡ true
    → MadeOf id layers (in_layer id.space without_terminated (in_layer id.space (with_frames id.number (λ rest. frames)) (without_top id layers))) before []

-- The numbers of threads

-- each number is less than all later ones
abbrev pub IsRising : List ℕ → Type 0
IsRising [] = Unit {0}
IsRising (n ∷ ns) = ((m : ℕ) → Contains ns m → n < m) × IsRising ns

-- the threads of a layer stand in the order of their numbers, which it gave out, from 1 on
pub record IsNumbered (l : Layer) : Type 0 where
  pub begins : 1 ≤ l.next.thread
  pub counted : (t : Thread) → Contains l.threads t → 1 ≤ t.number
  pub rising : IsRising (map (λ (t : Thread). t.number) l.threads)
  pub given : (t : Thread) → Contains l.threads t → t.number < l.next.thread

-- So it is after such a step
abbrev pub StepNumbered : Type 0
StepNumbered =
    (id : Ident) (changes : List Change) (layers result : List Layer) (before : Layer) (made : MadeOf id layers result before (spawned_from before.next.thread changes)) → IsNumbered before
    → IsNumbered made.after

-- Then the new threads are new to the queue
abbrev pub StepNew : Type 0
StepNew =
    (statements : List Statement) (changes : List Change) (layers : List Layer) (space : List ℕ) (queue : List Ident) (before : Layer) → is_ascending (names_of layers) ≡ true
    → layer_at layers space ≡ Some before → IsNumbered before → IsExact statements layers queue → AreNew space (spawned_from before.next.thread changes) queue

-- and no thread stands twice among those that can step
abbrev pub RunnableOnce : Type 0
RunnableOnce =
    (statements : List Statement) (layers : List Layer) → is_ascending (names_of layers) ≡ true → ((l : Layer) → Contains layers l → IsNumbered l)
    → is_once (runnable statements layers) ≡ true

-- and the layer of a thread alone tells whether it can step
abbrev pub MoverTold : Type 0
MoverTold =
    (statements : List Statement) (layers : List Layer) (id : Ident) (l : Layer) → is_ascending (names_of layers) ≡ true → layer_at layers id.space ≡ Some l → IsNumbered l
    → is_among (runnable statements layers) id
    ≡ (is_open l.status && holds_of (λ (t : Thread). can_step (thread_ready statements layers id.space t)) (thread_at l.threads id.number))

-- What follows

-- no space that may fail sees what is inconsistent
abbrev pub IsSound : List Layer → Type 0
IsSound layers = (l : Layer) → Contains layers l → is_inconsistent layers l ≡ false

-- So it is after a step that tells nothing
abbrev pub QuietSound : Type 0
QuietSound =
    (layers : List Layer) (id : Ident) (before after : Layer) (news : List Thread) → layer_at layers id.space ≡ Some before → StepsTo id.number before after news → IsSound layers
    → IsSound (in_layer id.space (λ l. after) layers)

-- Then no space fails after it, and where no space is a value and no trigger is needed, the queue is the rest, and then the thread and the new ones, as far as they can step
abbrev pub QuietSettles : Type 0
QuietSettles =
    (statements : List Statement) (c : Configuration) (id : Ident) (queue : List Ident) (before after : Layer) (news : List Thread) (cost : ℕ) → has_spaces c.layers ≡ false
    → layer_at c.layers id.space ≡ Some before → StepsTo id.number before after news → IsExact statements c.layers (id ∷ queue) → is_once (id ∷ queue) ≡ true → AreNew id.space news (id ∷ queue) → IsSound c.layers
    → (layers : List Layer) → layers ≡ in_layer id.space (λ l. after) c.layers → NoneNeeded statements layers
    → ◌≡◌ {A = Turned} (settled statements (Some id) cost (record c { layers = layers; queue = queue })) (
      Moved cost,
      record c { layers = layers; queue = queue ++ mover_in (Some id) (runnable statements layers) ++ runnable_in statements layers (record after { threads = news }) },
    )

-- So where a thread makes changes that tell nothing
abbrev pub ChangesSettle : Type 0
ChangesSettle =
    (statements : List Statement) (c : Configuration) (id : Ident) (queue : List Ident) (before : Layer) (changes : List Change) (cost : ℕ) → has_spaces c.layers ≡ false → is_ascending (names_of c.layers) ≡ true
    → layer_at c.layers id.space ≡ Some before → IsNumbered before → IsExact statements c.layers (id ∷ queue) → is_once (id ∷ queue) ≡ true → IsSound c.layers
    → (layers : List Layer) → layers ≡ in_layer id.space without_terminated (changed_all id changes (without_top id c.layers)) → NoneNeeded statements layers
    → ◌≡◌ {A = Turned} (went_on statements id cost (changed_all id changes (without_top id c.layers)) (record c { queue = queue })) (
      Moved cost,
      record c {
        layers = layers;
        queue = queue ++ mover_in (Some id) (runnable statements layers) ++ runnable_in statements layers (record before { threads = spawned_from before.next.thread changes });
      },
    )

-- and where it goes on with another stack
abbrev pub StackSettle : Type 0
StackSettle =
    (statements : List Statement) (c : Configuration) (id : Ident) (queue : List Ident) (before : Layer) (frames : List Frame) (cost : ℕ) → has_spaces c.layers ≡ false → is_ascending (names_of c.layers) ≡ true
    → layer_at c.layers id.space ≡ Some before → IsNumbered before → IsExact statements c.layers (id ∷ queue) → is_once (id ∷ queue) ≡ true → IsSound c.layers
    → (layers : List Layer) → layers ≡ in_layer id.space without_terminated (in_layer id.space (with_frames id.number (λ rest. frames)) (without_top id c.layers))
    → NoneNeeded statements layers
    → ◌≡◌ {A = Turned} (went_on statements id cost (in_layer id.space (with_frames id.number (λ rest. frames)) (without_top id c.layers)) (record c { queue = queue }))
    (Moved cost, record c { layers = layers; queue = queue ++ mover_in (Some id) (runnable statements layers) })
