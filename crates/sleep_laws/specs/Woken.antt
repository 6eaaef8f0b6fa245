-- What a step that tells something makes of the queue, where it is known which threads of the space may wake.
use Rattle.std.specs.Prelude.{ℕ, ◌≡◌, ◌⊎◌, Bool, true, false, not, ◌||◌, if◌then◌else◌, List, [], ◌∷◌, ◌++◌, Contains, Some, filter, map}
use Rattle.oz_base.specs.Lists.{list_eq}
use Rattle.oz_base.specs.declared.names.Ident.{Ident}
use Rattle.oz_language.specs.declared.kernel.Statement.{Statement}
use Rattle.oz_semantics.specs.Names.{named}
use Rattle.oz_semantics.specs.Store.{is_consistent}
use Rattle.oz_semantics.specs.Configurations.{layer_of, stack_of, view, in_layer, without_terminated}
use Rattle.oz_semantics.specs.Sights.{can_step}
use Rattle.oz_semantics.specs.Statements.{stack_answer}
use Rattle.oz_semantics.specs.Readiness.{answer_ready}
use Rattle.oz_semantics.specs.Spaces.{sight, thread_ready}
use Rattle.oz_semantics.specs.Changes.{Change, done}
use Rattle.oz_semantics.specs.Settling.{Turned, is_among, queue_after, runnable_in}
use Rattle.oz_semantics.specs.Steps.{without_top, went_on}
use Rattle.oz_semantics.specs.declared.value.Tell.{Tell}
use Rattle.oz_semantics.specs.declared.configuration.Thread.{Thread}
use Rattle.oz_semantics.specs.declared.configuration.Layer.{Layer}
use Rattle.oz_semantics.specs.declared.configuration.Configuration.{Configuration}
use Rattle.oz_semantics.specs.declared.outcome.Stepped.TheVariants.{Moved}
use Rattle.view_laws.specs.Needs.{NoneNeeded}
use Rattle.view_laws.specs.Spaceless.{has_spaces}
use Rattle.view_laws.specs.Steps.{IsRising, IsNumbered}
use Rattle.turn_laws.specs.Kept.{IsKept}
use Rattle.turn_laws.specs.Telling.{IsAlone, others_of}
use Rattle.quiet_laws.specs.Awake.{IsAble, rest_and}

-- Lists of threads

-- those of the threads of a space with these numbers that are among the ids
abbrev pub woken_among : List Ident → List ℕ → List ℕ → List Ident
woken_among ids space numbers = filter (is_among ids) (map (named space) numbers)

-- each thread of the layer that can step is one of these, or has one of the numbers
abbrev pub WakesWithin : List Statement → List Layer → Layer → List Ident → List ℕ → Type 0
WakesWithin statements layers l ids numbers =
    (t : Thread) → Contains l.threads t → can_step (thread_ready statements layers l.space t) ≡ true → Contains ids (named l.space t.number) ⊎ Contains numbers t.number

-- Then those of the layer that are not among these threads are those of the numbers, in their order
abbrev pub WokenOthers : Type 0
WokenOthers =
    (statements : List Statement) (layers : List Layer) (l : Layer) (ids : List Ident) (numbers : List ℕ) → IsNumbered l → IsRising numbers → WakesWithin statements layers l ids numbers
    → others_of ids (runnable_in statements layers l) ≡ others_of ids (woken_among (runnable_in statements layers l) l.space numbers)

-- Where no space is a value

-- the statement on top of the thread's stack can step by what its space sees
abbrev pub top_able : List Statement → List Layer → Ident → Bool
top_able statements layers id = can_step (answer_ready (stack_answer (sight statements layers id.space) (stack_of layers id)))

-- a thread of another space, or one that can step
abbrev pub is_asked_still : List Statement → List Layer → List ℕ → Ident → Bool
is_asked_still statements layers space id = not (list_eq id.space space) || top_able statements layers id

-- the rest of the queue, and the thread that stepped, as far as they can step
abbrev pub rest_asked : List Statement → List Layer → Ident → List Ident → List Ident
rest_asked statements layers id queue = filter (is_asked_still statements layers id.space) queue ++ (if top_able statements layers id then id ∷ [] else [])

-- and then those of its space with these numbers that can step and are not yet there
abbrev pub told_queue : List Statement → List Layer → Ident → List ℕ → List Ident → List Ident
told_queue statements layers id numbers queue =
    rest_asked statements layers id queue ++ others_of (rest_asked statements layers id queue) (filter (top_able statements layers) (map (named id.space) numbers))

-- It is what the queue becomes where all of these that can step join it
abbrev pub ToldRequeues : Type 0
ToldRequeues =
    (statements : List Statement) (layers : List Layer) (id : Ident) (numbers : List ℕ) (queue : List Ident)
    → queue_after (rest_asked statements layers id queue ++ filter (top_able statements layers) (map (named id.space) numbers)) (Some id) queue
    ≡ told_queue statements layers id numbers queue

-- each thread of the space is the one that stepped, or of the rest of the queue, or has one of the numbers, or can't step
abbrev pub WakesThese : List Statement → List Layer → Ident → List Ident → List ℕ → Type 0
WakesThese statements layers id queue numbers =
    (t : Thread) → Contains (layer_of layers id.space).threads t → can_step (thread_ready statements layers id.space t) ≡ true
    → Contains (id ∷ queue) (named id.space t.number) ⊎ Contains numbers t.number

-- A space with none below it is told what is consistent with what it sees, and no space is a value then. Where no trigger is needed, the
-- queue is the rest, the thread that stepped, and those that woke, as far as they can step
abbrev pub TellWakes : Type 0
TellWakes =
    (statements : List Statement) (c : Configuration) (id : Ident) (queue : List Ident) (ts : List Tell) (changes : List Change) (numbers : List ℕ) (cost : ℕ)
    → IsKept statements (record c { queue = id ∷ queue }) → IsAlone c.layers id.space → is_consistent (view c.layers id.space ++ ts) ≡ true
    → (layers : List Layer) → layers ≡ in_layer id.space without_terminated (done id ts changes (without_top id c.layers)) → NoneNeeded statements layers → has_spaces layers ≡ false
    → IsRising numbers → WakesThese statements layers id queue numbers
    → ◌≡◌ {A = Turned} (went_on statements id cost (done id ts changes (without_top id c.layers)) (record c { queue = queue }))
    (Moved cost, record c { layers = layers; queue = told_queue statements layers id numbers queue })

-- Where spaces are values, and the thread can step still

-- the queue is then the rest, the thread, and those that woke, as far as they can step
abbrev pub TellWakesAwake : Type 0
TellWakesAwake =
    (statements : List Statement) (c : Configuration) (id : Ident) (queue : List Ident) (ts : List Tell) (changes : List Change) (numbers : List ℕ) (cost : ℕ)
    → IsKept statements (record c { queue = id ∷ queue }) → IsAlone c.layers id.space → is_consistent (view c.layers id.space ++ ts) ≡ true
    → (layers : List Layer) → layers ≡ in_layer id.space without_terminated (done id ts changes (without_top id c.layers)) → NoneNeeded statements layers → IsAble statements layers id
    → IsRising numbers → WakesThese statements layers id queue numbers
    → ◌≡◌ {A = Turned} (went_on statements id cost (done id ts changes (without_top id c.layers)) (record c { queue = queue })) (
      Moved cost,
      record c {
        layers = layers;
        queue =
            rest_and statements layers id queue
            ++ others_of (rest_and statements layers id queue) (woken_among (runnable_in statements layers (layer_of layers id.space)) id.space numbers);
      },
    )
