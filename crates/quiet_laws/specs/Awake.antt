-- Where the thread that stepped can step still, no thread of another space wakes: something of each space on the way from the top to its
-- own could step before, and can step now, so each of them that may run runs both times.
use Rattle.std.specs.Prelude.{ℕ, ◌≡◌, true, List, [], ◌∷◌, ◌++◌, filter}
use Rattle.oz_base.specs.declared.names.Ident.{Ident}
use Rattle.oz_language.specs.declared.kernel.Statement.{Statement}
use Rattle.oz_semantics.specs.Store.{is_consistent}
use Rattle.oz_semantics.specs.Configurations.{layer_of, stack_of, view, in_layer, with_frames, without_terminated}
use Rattle.oz_semantics.specs.Sights.{can_step}
use Rattle.oz_semantics.specs.Statements.{stack_answer}
use Rattle.oz_semantics.specs.Readiness.{answer_ready}
use Rattle.oz_semantics.specs.Spaces.{sight}
use Rattle.oz_semantics.specs.Changes.{Change, changed_all, done}
use Rattle.oz_semantics.specs.Settling.{Turned, runnable_in}
use Rattle.oz_semantics.specs.Steps.{without_top, went_on}
use Rattle.oz_semantics.specs.declared.value.Tell.{Tell}
use Rattle.oz_semantics.specs.declared.configuration.Frame.{Frame}
use Rattle.oz_semantics.specs.declared.configuration.Layer.{Layer}
use Rattle.oz_semantics.specs.declared.configuration.Configuration.{Configuration}
use Rattle.oz_semantics.specs.declared.outcome.Stepped.TheVariants.{Moved}
use Rattle.view_laws.specs.Needs.{NoneNeeded}
use Rattle.view_laws.specs.Steps.{spawned_from}
use Rattle.turn_laws.specs.Kept.{IsKept}
use Rattle.turn_laws.specs.Telling.{IsAlone, others_of, is_able_still}
use Rattle.quiet_laws.specs.Unknown.{given_in, AreUnknown}

-- the statement on top of the thread's stack can step by what its space sees, whatever the states of the spaces in that
abbrev pub IsAble : List Statement → List Layer → Ident → Type 0
IsAble statements layers id = can_step (answer_ready (stack_answer (sight statements layers id.space) (stack_of layers id))) ≡ true

-- The thread at the head makes changes, what it gives out is unknown below its space, no trigger is needed then, and it can step still. Then
-- the queue is the rest, the thread, and the new ones, as far as they can step
abbrev pub ChangesAwake : Type 0
ChangesAwake =
    (statements : List Statement) (c : Configuration) (id : Ident) (queue : List Ident) (changes : List Change) (cost : ℕ) → IsKept statements (record c { queue = id ∷ queue })
    → AreUnknown statements c.layers id.space (given_in (layer_of c.layers id.space) changes)
    → (layers : List Layer) → layers ≡ in_layer id.space without_terminated (changed_all id changes (without_top id c.layers)) → NoneNeeded statements layers → IsAble statements layers id
    → ◌≡◌ {A = Turned} (went_on statements id cost (changed_all id changes (without_top id c.layers)) (record c { queue = queue })) (
      Moved cost,
      record c {
        layers = layers;
        queue = (queue ++ id ∷ []) ++ runnable_in statements layers (record (layer_of c.layers id.space) { threads = spawned_from (layer_of c.layers id.space).next.thread changes });
      },
    )

-- and so where it goes on with another stack
abbrev pub StackAwake : Type 0
StackAwake =
    (statements : List Statement) (c : Configuration) (id : Ident) (queue : List Ident) (frames : List Frame) (cost : ℕ) → IsKept statements (record c { queue = id ∷ queue })
    → (layers : List Layer) → layers ≡ in_layer id.space without_terminated (in_layer id.space (with_frames id.number (λ rest. frames)) (without_top id c.layers))
    → NoneNeeded statements layers → IsAble statements layers id
    → ◌≡◌ {A = Turned} (went_on statements id cost (in_layer id.space (with_frames id.number (λ rest. frames)) (without_top id c.layers)) (record c { queue = queue }))
    (Moved cost, record c { layers = layers; queue = queue ++ id ∷ [] })

-- the rest of the queue, as far as it can step still, and the thread that stepped
abbrev pub rest_and : List Statement → List Layer → Ident → List Ident → List Ident
rest_and statements layers id queue = filter (is_able_still statements layers id.space) queue ++ id ∷ []

-- A space with none below it is told what is consistent with what it sees, no trigger is needed then, and the thread can step still. Then
-- the queue is the rest, the thread, and all others of its own space, as far as they can step: of the rest, only threads of its own space
-- may no longer
abbrev pub TellAwake : Type 0
TellAwake =
    (statements : List Statement) (c : Configuration) (id : Ident) (queue : List Ident) (ts : List Tell) (changes : List Change) (cost : ℕ) → IsKept statements (record c { queue = id ∷ queue })
    → IsAlone c.layers id.space → is_consistent (view c.layers id.space ++ ts) ≡ true
    → (layers : List Layer) → layers ≡ in_layer id.space without_terminated (done id ts changes (without_top id c.layers)) → NoneNeeded statements layers → IsAble statements layers id
    → ◌≡◌ {A = Turned} (went_on statements id cost (done id ts changes (without_top id c.layers)) (record c { queue = queue })) (
      Moved cost,
      record c {
        layers = layers;
        queue = rest_and statements layers id queue ++ others_of (rest_and statements layers id queue) (runnable_in statements layers (layer_of layers id.space));
      },
    )
