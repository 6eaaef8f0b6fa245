-- What a step that tells something makes of the queue, where no space is below the one that is told.
use Rattle.std.specs.Prelude.{ℕ, ◌≡◌, Bool, true, false, not, ◌||◌, List, ◌∷◌, ◌++◌, Contains, Some, filter}
use Rattle.std.specs.List.{list_any}
use Rattle.oz_base.specs.Lists.{list_eq}
use Rattle.oz_base.specs.declared.names.Ident.{Ident}
use Rattle.oz_language.specs.declared.kernel.Statement.{Statement}
use Rattle.oz_semantics.specs.Names.{is_properly_below}
use Rattle.oz_semantics.specs.Store.{is_consistent}
use Rattle.oz_semantics.specs.Configurations.{layer_of, view, in_layer, without_terminated}
use Rattle.oz_semantics.specs.Changes.{Change, done}
use Rattle.oz_semantics.specs.Settling.{Turned, is_among, mover_in, runnable_in, runnable}
use Rattle.oz_semantics.specs.Steps.{without_top, went_on}
use Rattle.oz_semantics.specs.declared.value.Tell.{Tell}
use Rattle.oz_semantics.specs.declared.configuration.Layer.{Layer}
use Rattle.oz_semantics.specs.declared.configuration.Configuration.{Configuration}
use Rattle.oz_semantics.specs.declared.outcome.Stepped.TheVariants.{Moved}
use Rattle.view_laws.specs.Spaceless.{gives_space, has_spaces}
use Rattle.view_laws.specs.Needs.{NoneNeeded}
use Rattle.turn_laws.specs.Kept.{IsKept}

-- no layer's space is properly below this one
abbrev pub IsAlone : List Layer → List ℕ → Type 0
IsAlone layers space = (l : Layer) → Contains layers l → is_properly_below space l.space ≡ false

-- those of the threads that the queue does not hold
abbrev pub others_of : List Ident → List Ident → List Ident
others_of queue ids = filter (λ (id : Ident). not (is_among queue id)) ids

-- a thread of another space, or one that can step: a distributor that had a domain to tell may offer once another thread told it
abbrev pub is_able_still : List Statement → List Layer → List ℕ → Ident → Bool
is_able_still statements layers space id = not (list_eq id.space space) || is_among (runnable_in statements layers (layer_of layers space)) id

-- the rest of the queue, and the thread that stepped, as far as they can step
abbrev pub staying : List Statement → List Layer → Ident → List Ident → List Ident
staying statements layers id queue = filter (is_able_still statements layers id.space) queue ++ mover_in (Some id) (runnable statements layers)

-- No space is a value, and one with none below it is told what is consistent with what it sees and makes no space a value. Where no trigger
-- is needed then, no space fails, and the queue is the rest, and then the thread that stepped, and then all others of its own space, as far
-- as they can step: of the rest, only threads of its own space may no longer
abbrev pub TellQueue : Type 0
TellQueue =
    (statements : List Statement) (c : Configuration) (id : Ident) (queue : List Ident) (ts : List Tell) (changes : List Change) (cost : ℕ) → IsKept statements (record c { queue = id ∷ queue })
    → has_spaces c.layers ≡ false → list_any gives_space ts ≡ false → IsAlone c.layers id.space → is_consistent (view c.layers id.space ++ ts) ≡ true
    → (layers : List Layer) → layers ≡ in_layer id.space without_terminated (done id ts changes (without_top id c.layers)) → NoneNeeded statements layers
    → ◌≡◌ {A = Turned} (went_on statements id cost (done id ts changes (without_top id c.layers)) (record c { queue = queue })) (
      Moved cost,
      record c {
        layers = layers;
        queue =
            staying statements layers id queue
            ++ others_of (staying statements layers id queue) (runnable_in statements layers (layer_of layers id.space));
      },
    )
