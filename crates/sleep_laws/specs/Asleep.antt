-- Threads that wait for variables alone, and which tells leave them asleep.
use Rattle.std.specs.Prelude.{ℕ, ◌≡◌, ◌⊎◌, true, false, List, [], ◌∷◌, ◌++◌, Contains, Option, Some, None}
use Rattle.oz_base.specs.declared.names.Ident.{Ident}
use Rattle.oz_language.specs.declared.kernel.Statement.{Statement}
use Rattle.oz_semantics.specs.Names.{named}
use Rattle.oz_semantics.specs.Store.{IsConsistent, is_determined, is_consistent}
use Rattle.oz_semantics.specs.Configurations.{layer_of, stack_of, view, in_layer, with_frames, without_terminated}
use Rattle.oz_semantics.specs.Sights.{States, Readiness, Steps, Waits, WaitsForState, Offers, can_step}
use Rattle.oz_semantics.specs.Answers.{Answer, Acts, Edits, RaisesKind, RaisesTerm, Operates, Widens, Rests}
use Rattle.oz_semantics.specs.Statements.{stack_answer}
use Rattle.oz_semantics.specs.Spaces.{ready_in}
use Rattle.oz_semantics.specs.Changes.{Change, changed_all, done}
use Rattle.oz_semantics.specs.Steps.{without_top}
use Rattle.oz_semantics.specs.declared.value.Tell.{Tell}
use Rattle.oz_semantics.specs.declared.configuration.Frame.{Frame}
use Rattle.oz_semantics.specs.declared.configuration.Thread.{Thread}
use Rattle.oz_semantics.specs.declared.configuration.Layer.{Layer}
use Rattle.oz_semantics.specs.declared.configuration.Configuration.{Configuration}
use Rattle.oz_laws.specs.Touched.{Meets, Touches}
use Rattle.view_laws.specs.Sights.{SeesBesides}
use Rattle.view_laws.specs.Readies.{SameClasses, seeing}
use Rattle.view_laws.specs.Steps.{spawned_from}
use Rattle.turn_laws.specs.Kept.{IsKept}
use Rattle.turn_laws.specs.Telling.{IsAlone}

-- the variables that it is for alone, where it is no step: it may offer alternatives meanwhile
abbrev pub waits_only : Readiness → Option (List Ident)
waits_only Steps = None
waits_only (Waits xs) = Some xs
waits_only (WaitsForState space) = None
waits_only (Offers offer xs) = Some xs

-- the variables that an answer waits for, where it is one that rests by what its space sees
abbrev pub rests_for : Answer → Option (List Ident)
rests_for (Acts act) = None
rests_for (Edits edit) = None
rests_for (RaisesKind kind) = None
rests_for (RaisesTerm x) = None
rests_for (Operates op space x) = None
rests_for (Widens ts) = None
rests_for (Rests ready) = waits_only ready

-- by what its space sees the thread waits for these variables alone, and none of them is determined
pub record IsAsleep (statements : List Statement) (space : List ℕ) (view : List Tell) (t : Thread) (xs : List Ident) : Type 0 where
  pub waits : rests_for (stack_answer (seeing statements space view) t.frames) ≡ Some xs
  pub free : (x : Ident) → Contains xs x → is_determined view x ≡ false

-- it is asleep, and waits for variables of the same classes
pub record SleepsOn (statements : List Statement) (space : List ℕ) (view : List Tell) (t : Thread) (xs : List Ident) : Type 0 where
  pub variables : List Ident
  pub asleep : IsAsleep statements space view t variables
  pub same : SameClasses view xs variables

-- A thread asleep can't step, whatever the states of the spaces
abbrev pub AsleepRests : Type 0
AsleepRests =
    (statements : List Statement) (layers : List Layer) (states : States) (space : List ℕ) (t : Thread) (xs : List Ident) → IsAsleep statements space (view layers space) t xs
    → can_step (ready_in statements layers states space t) ≡ false

-- It sleeps on where its space is told more that touches none of the variables that it waits for
abbrev pub StaysAsleep : Type 0
StaysAsleep =
    (statements : List Statement) (space : List ℕ) (before more after : List Tell) (touched xs : List Ident) (t : Thread) → SeesBesides before after more → IsConsistent after
    → Touches before more touched → IsAsleep statements space before t xs → ((x : Ident) → Contains xs x → Meets before touched x → ⊥)
    → SleepsOn statements space after t xs

-- Steps

-- a thread of the layer is the one that stepped, or one of the new ones, or stood there as it is
abbrev pub IsOf : ℕ → List Thread → Layer → Thread → Type 0
IsOf number news before t = (t.number ≡ number) ⊎ Contains news t ⊎ Contains before.threads t

-- so it is of all threads of the space after a step, and what the space sees besides what it saw is consistent with that
pub record LeavesTold (id : Ident) (ts : List Tell) (news : List Thread) (before after : List Layer) : Type 0 where
  pub threads : (t : Thread) → Contains (layer_of after id.space).threads t → IsOf id.number news (layer_of before id.space) t
  pub seen : SeesBesides (view before id.space) (view after id.space) ts
  pub consistent : IsConsistent (view after id.space)

-- A step of the head of the queue leaves so a space with none below it that is told what is consistent with what it sees
abbrev pub ToldLeft : Type 0
ToldLeft =
    (statements : List Statement) (c : Configuration) (id : Ident) (queue : List Ident) (ts : List Tell) (changes : List Change) → IsKept statements (record c { queue = id ∷ queue })
    → IsAlone c.layers id.space → is_consistent (view c.layers id.space ++ ts) ≡ true
    → LeavesTold id ts (spawned_from (layer_of c.layers id.space).next.thread changes) c.layers (in_layer id.space without_terminated (done id ts changes (without_top id c.layers)))

-- after a step that tells nothing the space sees what it saw
pub record LeavesThreads (id : Ident) (news : List Thread) (before after : List Layer) : Type 0 where
  pub threads : (t : Thread) → Contains (layer_of after id.space).threads t → IsOf id.number news (layer_of before id.space) t
  pub seen : view after id.space ≡ view before id.space

-- So it is where the head of the queue makes changes
abbrev pub QuietLeft : Type 0
QuietLeft =
    (statements : List Statement) (c : Configuration) (id : Ident) (queue : List Ident) (changes : List Change) → IsKept statements (record c { queue = id ∷ queue })
    → LeavesThreads id (spawned_from (layer_of c.layers id.space).next.thread changes) c.layers (in_layer id.space without_terminated (changed_all id changes (without_top id c.layers)))

-- and where it goes on with another stack
abbrev pub StackLeft : Type 0
StackLeft =
    (statements : List Statement) (c : Configuration) (id : Ident) (queue : List Ident) (frames : List Frame) → IsKept statements (record c { queue = id ∷ queue })
    → LeavesThreads id [] c.layers (in_layer id.space without_terminated (in_layer id.space (with_frames id.number (λ rest. frames)) (without_top id c.layers)))

-- All threads of a space

-- a thread, by its name
abbrev pub thread_of : List Layer → Ident → Thread
thread_of layers id = record { number = id.number; frames = stack_of layers id }

-- each thread of the space is one of these, or sleeps and is found
abbrev pub AreAtRest : List Statement → List Layer → List ℕ → (ℕ → List Ident → Type 0) → List Ident → Type 0
AreAtRest statements layers space found ids =
    (t : Thread) → Contains (layer_of layers space).threads t
    → Contains ids (named space t.number) ⊎ ((xs : List Ident) × IsAsleep statements space (view layers space) (thread_of layers (named space t.number)) xs × found t.number xs)

-- or has one of the numbers; and where it sleeps, none of what it waits for is touched
abbrev pub AreForewarned : List Statement → List Layer → List ℕ → (ℕ → List Ident → Type 0) → List Ident → List ℕ → List Ident → Type 0
AreForewarned statements layers space found touched numbers ids =
    (t : Thread) → Contains (layer_of layers space).threads t
    → Contains ids (named space t.number) ⊎ Contains numbers t.number
    ⊎ ((xs : List Ident) × IsAsleep statements space (view layers space) (thread_of layers (named space t.number)) xs
    × found t.number xs × ((x : Ident) → Contains xs x → Meets (view layers space) touched x → ⊥))
