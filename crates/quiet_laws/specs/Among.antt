-- What a step that tells nothing, or tells a space with none below it, makes of the queue, also where spaces are values: it may wake
-- threads of the proper ancestors of its space, which wait for the state of a space in their own.
use Rattle.std.specs.Prelude.{ℕ, ◌≡◌, true, List, [], ◌∷◌, ◌++◌, Some, filter, flat_map}
use Rattle.oz_base.specs.declared.names.Ident.{Ident}
use Rattle.oz_language.specs.declared.kernel.Statement.{Statement}
use Rattle.oz_semantics.specs.Names.{is_properly_below}
use Rattle.oz_semantics.specs.Store.{is_consistent}
use Rattle.oz_semantics.specs.Configurations.{layer_of, view, in_layer, with_frames, without_terminated}
use Rattle.oz_semantics.specs.Changes.{Change, changed_all, done}
use Rattle.oz_semantics.specs.Settling.{Turned, mover_in, runnable_in, runnable}
use Rattle.oz_semantics.specs.Steps.{without_top, went_on}
use Rattle.oz_semantics.specs.declared.value.Tell.{Tell}
use Rattle.oz_semantics.specs.declared.configuration.Frame.{Frame}
use Rattle.oz_semantics.specs.declared.configuration.Layer.{Layer}
use Rattle.oz_semantics.specs.declared.configuration.Configuration.{Configuration}
use Rattle.oz_semantics.specs.declared.outcome.Stepped.TheVariants.{Moved}
use Rattle.view_laws.specs.Needs.{NoneNeeded}
use Rattle.view_laws.specs.Steps.{spawned_from}
use Rattle.turn_laws.specs.Kept.{IsKept}
use Rattle.turn_laws.specs.Telling.{IsAlone, others_of, staying}
use Rattle.quiet_laws.specs.Unknown.{given_in, AreUnknown}

-- the layers of the proper ancestors of a space, in their order
abbrev pub above_of : List Layer → List ℕ → List Layer
above_of layers space = filter (λ (l : Layer). is_properly_below l.space space) layers

-- those of their threads that can step, and are not in the queue
abbrev pub woken : List Statement → List Layer → List ℕ → List Ident → List Ident
woken statements layers space queue = others_of queue (flat_map (runnable_in statements layers) (above_of layers space))

-- the rest of the queue, and the thread that stepped, where it can step
abbrev pub rejoined : List Statement → List Layer → Ident → List Ident → List Ident
rejoined statements layers id queue = queue ++ mover_in (Some id) (runnable statements layers)

-- The thread at the head makes changes, and what it gives out is unknown below its space. Where no trigger is needed then, no space
-- fails, and the queue is the rest, and then the thread, the threads of the proper ancestors that wake, and the new ones, as far as they can step
abbrev pub ChangesAmong : Type 0
ChangesAmong =
    (statements : List Statement) (c : Configuration) (id : Ident) (queue : List Ident) (changes : List Change) (cost : ℕ) → IsKept statements (record c { queue = id ∷ queue })
    → AreUnknown statements c.layers id.space (given_in (layer_of c.layers id.space) changes)
    → (layers : List Layer) → layers ≡ in_layer id.space without_terminated (changed_all id changes (without_top id c.layers)) → NoneNeeded statements layers
    → ◌≡◌ {A = Turned} (went_on statements id cost (changed_all id changes (without_top id c.layers)) (record c { queue = queue })) (
      Moved cost,
      record c {
        layers = layers;
        queue =
            rejoined statements layers id queue
            ++ woken statements layers id.space (rejoined statements layers id queue)
            ++ runnable_in statements layers (record (layer_of c.layers id.space) { threads = spawned_from (layer_of c.layers id.space).next.thread changes });
      },
    )

-- and so where it goes on with another stack
abbrev pub StackAmong : Type 0
StackAmong =
    (statements : List Statement) (c : Configuration) (id : Ident) (queue : List Ident) (frames : List Frame) (cost : ℕ) → IsKept statements (record c { queue = id ∷ queue })
    → (layers : List Layer) → layers ≡ in_layer id.space without_terminated (in_layer id.space (with_frames id.number (λ rest. frames)) (without_top id c.layers))
    → NoneNeeded statements layers
    → ◌≡◌ {A = Turned} (went_on statements id cost (in_layer id.space (with_frames id.number (λ rest. frames)) (without_top id c.layers)) (record c { queue = queue })) (
      Moved cost,
      record c { layers = layers; queue = rejoined statements layers id queue ++ woken statements layers id.space (rejoined statements layers id queue) },
    )

-- A space with none below it is told what is consistent with what it sees. Where no trigger is needed then, no space fails, and the
-- queue is the rest, and then the thread that stepped, the threads of the proper ancestors that wake, and all others of its own space, as
-- far as they can step: of the rest, only threads of its own space may no longer
abbrev pub TellAmong : Type 0
TellAmong =
    (statements : List Statement) (c : Configuration) (id : Ident) (queue : List Ident) (ts : List Tell) (changes : List Change) (cost : ℕ) → IsKept statements (record c { queue = id ∷ queue })
    → IsAlone c.layers id.space → is_consistent (view c.layers id.space ++ ts) ≡ true
    → (layers : List Layer) → layers ≡ in_layer id.space without_terminated (done id ts changes (without_top id c.layers)) → NoneNeeded statements layers
    → ◌≡◌ {A = Turned} (went_on statements id cost (done id ts changes (without_top id c.layers)) (record c { queue = queue })) (
      Moved cost,
      record c {
        layers = layers;
        queue =
            staying statements layers id queue
            ++ woken statements layers id.space (staying statements layers id queue)
            ++ others_of (staying statements layers id queue) (runnable_in statements layers (layer_of layers id.space));
      },
    )

-- The top has no ancestors, so a step of it wakes none above it
abbrev pub AboveTop : Type 0
AboveTop = (layers : List Layer) → above_of layers [] ≡ []
