-- What is so of a configuration from turn to turn, and what a step that tells nothing makes of one of which it is so.
use Rattle.std.specs.Prelude.{ℕ, ◌≡◌, true, false, ◌||◌, List, [], ◌∷◌, ◌++◌, Contains, Some, is_some}
use Rattle.std.specs.List.{list_any}
use Rattle.oz_base.specs.Lists.{holds_of}
use Rattle.oz_base.specs.declared.names.Ident.{Ident}
use Rattle.oz_language.specs.declared.kernel.Statement.{Statement}
use Rattle.oz_language.specs.declared.kernel.Kernel.{Kernel}
use Rattle.oz_semantics.specs.Names.{is_below}
use Rattle.oz_semantics.specs.Configurations.{layer_at, layer_of, thread_at, is_open, in_layer, with_frames, without_terminated}
use Rattle.oz_semantics.specs.Sights.{can_step}
use Rattle.oz_semantics.specs.Spaces.{thread_ready, goes_on}
use Rattle.oz_semantics.specs.Changes.{Change, changed_all}
use Rattle.oz_semantics.specs.Settling.{Turned, mover_in, runnable_in, runnable}
use Rattle.oz_semantics.specs.Steps.{went_on, without_top, stepped}
use Rattle.oz_semantics.specs.Schedule.{propagated, turn}
use Rattle.oz_semantics.specs.Runs.{opening}
use Rattle.oz_semantics.specs.Search.{with_root, chosen_in}
use Rattle.oz_semantics.specs.declared.configuration.Frame.{Frame}
use Rattle.oz_semantics.specs.declared.configuration.Thread.{Thread}
use Rattle.oz_semantics.specs.declared.configuration.Propagator.{Propagator}
use Rattle.oz_semantics.specs.declared.configuration.Layer.{Layer}
use Rattle.oz_semantics.specs.declared.configuration.Configuration.{Configuration}
use Rattle.oz_semantics.specs.declared.outcome.Stepped.TheVariants.{Moved}
use Rattle.view_laws.specs.Trees.{IsTree}
use Rattle.view_laws.specs.Spaceless.{has_spaces}
use Rattle.view_laws.specs.Needs.{NoneNeeded}
use Rattle.view_laws.specs.Queues.{is_once, is_due_below}
use Rattle.view_laws.specs.Steps.{spawned_from, IsNumbered, IsSound}
use Rattle.settle_laws.specs.Turns.{Left, HasExact}
use Rattle.turn_laws.specs.Orderly.{AreOrderly}

-- the layers are those of a tree, the top is there, in each layer the threads stand in the order of their numbers, no space that
-- may fail sees what is inconsistent, no trigger is needed, and the queue holds exactly the threads that can step, each once
pub record IsKept (statements : List Statement) (c : Configuration) : Type 0 where
  pub tree : IsTree c.layers
  pub top : is_some (layer_at c.layers []) ≡ true
  pub numbered : (l : Layer) → Contains c.layers l → IsNumbered l
  pub sound : IsSound c.layers
  pub content : NoneNeeded statements c.layers
  pub exact : HasExact statements c
  pub once : is_once c.queue ≡ true

-- Its layers are then orderly
abbrev pub KeptLayers : Type 0
KeptLayers = (statements : List Statement) (c : Configuration) → IsKept statements c → AreOrderly c.layers

-- It may have shown any texts
abbrev pub KeptShown : Type 0
KeptShown = (statements : List Statement) (c : Configuration) (texts : List (List ℕ)) → IsKept statements c → IsKept statements (record c { shown = texts })

-- Turns

-- So it is after each turn that does not end the top
abbrev pub KeptTurn : Type 0
KeptTurn = (k : Kernel) (c : Configuration) (n : ℕ) (d : Configuration) → IsKept k.statements c → Left (turn k c) n d → IsKept k.statements d

-- and after the step of a thread that was taken off the head of the queue
abbrev pub KeptStep : Type 0
KeptStep =
    (k : Kernel) (id : Ident) (queue : List Ident) (c : Configuration) (n : ℕ) (d : Configuration) → IsKept k.statements (record c { queue = id ∷ queue })
    → Left (stepped k id (record c { queue = queue })) n d → IsKept k.statements d

-- and after the run of a propagator
abbrev pub KeptRun : Type 0
KeptRun =
    (statements : List Statement) (due : Layer × Propagator) (c : Configuration) (n : ℕ) (d : Configuration) → IsKept statements c
    → Left (propagated statements due c) n d → IsKept statements d

-- where a program opens
abbrev pub KeptOpening : Type 0
KeptOpening = (k : Kernel) → IsKept k.statements (opening k)

-- where the search begins
abbrev pub KeptRoot : Type 0
KeptRoot = (statements : List Statement) (procedure : Ident) (c : Configuration) → IsKept statements c → IsKept statements (with_root statements procedure c)

-- and where it commits a space
abbrev pub KeptChosen : Type 0
KeptChosen =
    (statements : List Statement) (space : List ℕ) (i : ℕ) (c : Configuration) → IsKept statements c → IsKept statements (chosen_in statements space i c)

-- The queue

-- Something of a space or below it can step or is due exactly where the queue holds a thread of it or of a space below it, or a propagator
-- there is due
abbrev pub KeptGoesOn : Type 0
KeptGoesOn =
    (statements : List Statement) (c : Configuration) (space : List ℕ) → IsKept statements c
    → goes_on statements c.layers space ≡ (list_any (λ (id : Ident). is_below space id.space) c.queue || is_due_below c.layers space)

-- the thread's space is there and open, and in its layer the thread, which can step
pub record IsThere (statements : List Statement) (layers : List Layer) (id : Ident) : Type 0 where
  pub layer : layer_at layers id.space ≡ Some (layer_of layers id.space)
  pub opened : is_open (layer_of layers id.space).status ≡ true
  pub thread : is_some (thread_at (layer_of layers id.space).threads id.number) ≡ true
  pub ready : holds_of (λ (t : Thread). can_step (thread_ready statements layers id.space t)) (thread_at (layer_of layers id.space).threads id.number) ≡ true

-- So it is of the thread at the head of the queue
abbrev pub KeptHead : Type 0
KeptHead = (statements : List Statement) (id : Ident) (queue : List Ident) (c : Configuration) → IsKept statements (record c { queue = id ∷ queue }) → IsThere statements c.layers id

-- Steps that tell nothing

-- Where no space is a value, the thread at the head makes changes, and no trigger is needed then, no space fails, and the queue is the rest, and then the thread
-- and the new ones, as far as they can step
abbrev pub KeptChanges : Type 0
KeptChanges =
    (statements : List Statement) (c : Configuration) (id : Ident) (queue : List Ident) (changes : List Change) (cost : ℕ) → IsKept statements (record c { queue = id ∷ queue }) → has_spaces c.layers ≡ false
    → (layers : List Layer) → layers ≡ in_layer id.space without_terminated (changed_all id changes (without_top id c.layers)) → NoneNeeded statements layers
    → ◌≡◌ {A = Turned} (went_on statements id cost (changed_all id changes (without_top id c.layers)) (record c { queue = queue })) (
      Moved cost,
      record c {
        layers = layers;
        queue =
            queue ++ mover_in (Some id) (runnable statements layers)
            ++ runnable_in statements layers (record (layer_of c.layers id.space) { threads = spawned_from (layer_of c.layers id.space).next.thread changes });
      },
    )

-- and so where it goes on with another stack
abbrev pub KeptStack : Type 0
KeptStack =
    (statements : List Statement) (c : Configuration) (id : Ident) (queue : List Ident) (frames : List Frame) (cost : ℕ) → IsKept statements (record c { queue = id ∷ queue }) → has_spaces c.layers ≡ false
    → (layers : List Layer) → layers ≡ in_layer id.space without_terminated (in_layer id.space (with_frames id.number (λ rest. frames)) (without_top id c.layers))
    → NoneNeeded statements layers
    → ◌≡◌ {A = Turned} (went_on statements id cost (in_layer id.space (with_frames id.number (λ rest. frames)) (without_top id c.layers)) (record c { queue = queue }))
    (Moved cost, record c { layers = layers; queue = queue ++ mover_in (Some id) (runnable statements layers) })
