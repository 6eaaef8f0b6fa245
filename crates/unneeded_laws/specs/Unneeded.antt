-- Steps after which no by-need computation is needed, since none was before: who has to be asked after a step, and who has not.
use Rattle.std.specs.Prelude.{ℕ, ◌≡◌, Bool, true, false, not, ◌&&◌, List, [], ◌∷◌, Option, Some, None, map}
use Rattle.std.specs.List.{list_any, flat_map}
use Rattle.oz_base.specs.Lists.{is_empty, holds_of}
use Rattle.oz_base.specs.declared.names.Ident.{Ident}
use Rattle.oz_language.specs.declared.kernel.Statement.{Statement}
use Rattle.oz_semantics.specs.Names.{is_below, named}
use Rattle.oz_semantics.specs.Store.{View, same}
use Rattle.oz_semantics.specs.Configurations.{layer_of, view, thread_at, in_layer, with_frames, without_terminated}
use Rattle.oz_semantics.specs.Sights.{Readiness, can_step, waits_of}
use Rattle.oz_semantics.specs.Spaces.{thread_ready}
use Rattle.oz_semantics.specs.Changes.{Change, GivesOut, CountsProcedure, CountsName, Pushes, Spawns, AddsCell, Holds, AddsPort, EndsAt, AddsTrigger, AddsPropagator, changed_all, done}
use Rattle.oz_semantics.specs.Triggers.{is_needed_in, has_needed}
use Rattle.oz_semantics.specs.Steps.{without_top}
use Rattle.oz_semantics.specs.declared.value.Tell.{Tell}
use Rattle.oz_semantics.specs.declared.configuration.Frame.{Frame}
use Rattle.oz_semantics.specs.declared.configuration.Thread.{Thread}
use Rattle.oz_semantics.specs.declared.configuration.Trigger.{Trigger}
use Rattle.oz_semantics.specs.declared.configuration.Propagator.{Propagator}
use Rattle.oz_semantics.specs.Propagation.{after_run}
use Rattle.oz_semantics.specs.declared.configuration.Layer.{Layer}
use Rattle.oz_semantics.specs.declared.configuration.Configuration.{Configuration}
use Rattle.view_laws.specs.Needs.{NoneNeeded}
use Rattle.view_laws.specs.Steps.{spawned_from}
use Rattle.turn_laws.specs.Kept.{IsKept}
use Rattle.turn_laws.specs.Telling.{IsAlone}

-- Threads that wait

-- the variables that a thread waits for, if it is there
abbrev pub waits_by : (Thread → Readiness) → Option Thread → List Ident
waits_by ready None = []
waits_by ready (Some t) = waits_of (ready t)

-- those of the thread of this name
abbrev pub waits_at : List Statement → List Layer → Ident → List Ident
waits_at statements layers id = waits_by (thread_ready statements layers id.space) (thread_at (layer_of layers id.space).threads id.number)

-- it waits for one
abbrev pub is_waiting : List Statement → List Layer → Ident → Bool
is_waiting statements layers id = not (is_empty (waits_at statements layers id))

-- the names of the threads that changes start in a space of this layer
abbrev pub started_in : List ℕ → Layer → List Change → List Ident
started_in space before changes = map (λ (t : Thread). named space t.number) (spawned_from before.next.thread changes)

-- One that can step waits for none
abbrev pub AbleWaitsNot : Type 0
AbleWaitsNot =
    (statements : List Statement) (layers : List Layer) (id : Ident)
    → holds_of (λ (t : Thread). can_step (thread_ready statements layers id.space t)) (thread_at (layer_of layers id.space).threads id.number) ≡ true
    → is_waiting statements layers id ≡ false

-- Steps that tell nothing

-- a change adds a trigger
abbrev pub adds_trigger : Change → Bool
adds_trigger (AddsTrigger procedure variable) = true
adds_trigger (GivesOut n) = false
adds_trigger CountsProcedure = false
adds_trigger CountsName = false
adds_trigger (Pushes frames) = false
adds_trigger (Spawns frames) = false
adds_trigger (AddsCell content) = false
adds_trigger (Holds n content) = false
adds_trigger (AddsPort end) = false
adds_trigger (EndsAt n end) = false
adds_trigger (AddsPropagator relation variables) = false

-- Where the thread at the head makes changes that add no trigger, and neither it nor a thread that it started waits for a variable then, no
-- trigger is needed
abbrev pub ChangesNeedNone : Type 0
ChangesNeedNone =
    (statements : List Statement) (c : Configuration) (id : Ident) (queue : List Ident) (changes : List Change) → IsKept statements (record c { queue = id ∷ queue })
    → list_any adds_trigger changes ≡ false
    → (layers : List Layer) → layers ≡ in_layer id.space without_terminated (changed_all id changes (without_top id c.layers))
    → list_any (is_waiting statements layers) (id ∷ started_in id.space (layer_of c.layers id.space) changes) ≡ false
    → NoneNeeded statements layers

-- and so where it goes on with another stack
abbrev pub StackNeedsNone : Type 0
StackNeedsNone =
    (statements : List Statement) (c : Configuration) (id : Ident) (queue : List Ident) (frames : List Frame) → IsKept statements (record c { queue = id ∷ queue })
    → (layers : List Layer) → layers ≡ in_layer id.space without_terminated (in_layer id.space (with_frames id.number (λ rest. frames)) (without_top id c.layers))
    → is_waiting statements layers id ≡ false
    → NoneNeeded statements layers

-- the triggers that changes add, in their order
abbrev pub added_by : List Change → List Trigger
added_by [] = []
added_by (AddsTrigger procedure variable ∷ changes) = record { procedure = procedure; variable = variable } ∷ added_by changes
added_by (GivesOut n ∷ changes) = added_by changes
added_by (CountsProcedure ∷ changes) = added_by changes
added_by (CountsName ∷ changes) = added_by changes
added_by (Pushes frames ∷ changes) = added_by changes
added_by (Spawns frames ∷ changes) = added_by changes
added_by (AddsCell content ∷ changes) = added_by changes
added_by (Holds n content ∷ changes) = added_by changes
added_by (AddsPort end ∷ changes) = added_by changes
added_by (EndsAt n end ∷ changes) = added_by changes
added_by (AddsPropagator relation variables ∷ changes) = added_by changes

-- Where they add some, these alone have to be asked
abbrev pub AddedNeedNone : Type 0
AddedNeedNone =
    (statements : List Statement) (c : Configuration) (id : Ident) (queue : List Ident) (changes : List Change) → IsKept statements (record c { queue = id ∷ queue })
    → (layers : List Layer) → layers ≡ in_layer id.space without_terminated (changed_all id changes (without_top id c.layers))
    → list_any (is_waiting statements layers) (id ∷ started_in id.space (layer_of c.layers id.space) changes) ≡ false
    → list_any (is_needed_in statements layers (layer_of layers id.space)) (added_by changes) ≡ false
    → NoneNeeded statements layers

-- the trigger's variable is equal to one of these
abbrev pub is_met : View → List Ident → Trigger → Bool
is_met view waited t = list_any (same view t.variable) waited

-- Where some of these threads wait, the triggers of their space have to be asked only whether it is for their variables
abbrev pub ChangesNeedMet : Type 0
ChangesNeedMet =
    (statements : List Statement) (c : Configuration) (id : Ident) (queue : List Ident) (changes : List Change) → IsKept statements (record c { queue = id ∷ queue })
    → list_any adds_trigger changes ≡ false
    → (layers : List Layer) → layers ≡ in_layer id.space without_terminated (changed_all id changes (without_top id c.layers))
    → list_any (is_met (view layers id.space) (flat_map (waits_at statements layers) (id ∷ started_in id.space (layer_of c.layers id.space) changes))) (layer_of layers id.space).triggers ≡ false
    → NoneNeeded statements layers

-- and so where it goes on with another stack
abbrev pub StackNeedsMet : Type 0
StackNeedsMet =
    (statements : List Statement) (c : Configuration) (id : Ident) (queue : List Ident) (frames : List Frame) → IsKept statements (record c { queue = id ∷ queue })
    → (layers : List Layer) → layers ≡ in_layer id.space without_terminated (in_layer id.space (with_frames id.number (λ rest. frames)) (without_top id c.layers))
    → list_any (is_met (view layers id.space) (waits_at statements layers id)) (layer_of layers id.space).triggers ≡ false
    → NoneNeeded statements layers

-- In any case the triggers of its own space alone have to be asked
abbrev pub ChangesNeedOwn : Type 0
ChangesNeedOwn =
    (statements : List Statement) (c : Configuration) (id : Ident) (queue : List Ident) (changes : List Change) → IsKept statements (record c { queue = id ∷ queue })
    → (layers : List Layer) → layers ≡ in_layer id.space without_terminated (changed_all id changes (without_top id c.layers))
    → has_needed statements layers (layer_of layers id.space) ≡ false
    → NoneNeeded statements layers

-- and so where it goes on with another stack
abbrev pub StackNeedsOwn : Type 0
StackNeedsOwn =
    (statements : List Statement) (c : Configuration) (id : Ident) (queue : List Ident) (frames : List Frame) → IsKept statements (record c { queue = id ∷ queue })
    → (layers : List Layer) → layers ≡ in_layer id.space without_terminated (in_layer id.space (with_frames id.number (λ rest. frames)) (without_top id c.layers))
    → has_needed statements layers (layer_of layers id.space) ≡ false
    → NoneNeeded statements layers

-- Steps that tell something

-- Where a space was told more, its own triggers and those of the spaces below it alone have to be asked
abbrev pub TellNeedsBelow : Type 0
TellNeedsBelow =
    (statements : List Statement) (c : Configuration) (id : Ident) (queue : List Ident) (ts : List Tell) (changes : List Change) → IsKept statements (record c { queue = id ∷ queue })
    → (layers : List Layer) → layers ≡ in_layer id.space without_terminated (done id ts changes (without_top id c.layers))
    → list_any (λ (l : Layer). is_below id.space l.space && has_needed statements layers l) layers ≡ false
    → NoneNeeded statements layers

-- and so its own alone, where none is below it
abbrev pub TellNeedsNone : Type 0
TellNeedsNone =
    (statements : List Statement) (c : Configuration) (id : Ident) (queue : List Ident) (ts : List Tell) (changes : List Change) → IsKept statements (record c { queue = id ∷ queue })
    → IsAlone c.layers id.space
    → (layers : List Layer) → layers ≡ in_layer id.space without_terminated (done id ts changes (without_top id c.layers))
    → has_needed statements layers (layer_of layers id.space) ≡ false
    → NoneNeeded statements layers

-- Runs of propagators

-- Where one ran in a space, the triggers of that and of the spaces below it alone have to be asked
abbrev pub RunNeedsBelow : Type 0
RunNeedsBelow =
    (statements : List Statement) (c : Configuration) (space : List ℕ) (v : View) (p : Propagator) (ts : List Tell) → IsKept statements c
    → (layers : List Layer) → layers ≡ in_layer space (after_run v p ts) c.layers
    → list_any (λ (l : Layer). is_below space l.space && has_needed statements layers l) layers ≡ false
    → NoneNeeded statements layers
