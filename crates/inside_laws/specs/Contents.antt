-- What a turn adds to the tells, propagators, cells and ports of its space: nothing that is below the space comes into them, but by a merge.
use Rattle.std.specs.Prelude.{ℕ, ◌≡◌, Bool, true, false, List, ◌∷◌, Option, Some, None, option_map}
use Rattle.oz_base.specs.declared.names.Ident.{Ident}
use Rattle.oz_language.specs.declared.kernel.Statement.{Statement}
use Rattle.oz_language.specs.declared.kernel.Kernel.{Kernel}
use Rattle.oz_semantics.specs.Configurations.{layer_at, stack_of, view}
use Rattle.oz_semantics.specs.Answers.{Edit, Creates, Commits, Copies, Injects, TakesIn, Answer, Acts, Edits, RaisesKind, RaisesTerm, Operates, Widens, Rests}
use Rattle.oz_semantics.specs.Spaces.{states_of, answer_in}
use Rattle.oz_semantics.specs.Schedule.{least_due, turn}
use Rattle.oz_semantics.specs.declared.value.Tell.{Tell}
use Rattle.oz_semantics.specs.declared.configuration.Propagator.{Propagator}
use Rattle.oz_semantics.specs.declared.configuration.Layer.{Layer}
use Rattle.oz_semantics.specs.declared.configuration.Configuration.{Configuration}
use Rattle.settle_laws.specs.Turns.{Left}
use Rattle.inside_laws.specs.Settled.{IsSettled}

-- what a space was told, its propagators, what its cells contain, and where the streams of its ports end
pub record Contents : Type 0 where
  pub tells : List Tell
  pub propagators : List Propagator
  pub cells : List Ident
  pub ports : List Ident

-- those of a layer, and of a space that is there
abbrev pub contents_of : Layer → Contents
contents_of l = record { tells = l.tells; propagators = l.propagators; cells = l.cells; ports = l.ports }

abbrev pub contents_at : List Layer → List ℕ → Option Contents
contents_at layers space = option_map contents_of (layer_at layers space)

-- what the statement of a thread answers
abbrev pub answer_of : List Statement → List Layer → Ident → Answer
answer_of statements layers id = answer_in statements layers (states_of statements layers) id.space (stack_of layers id)

-- an edit by which a space becomes a part of the thread's own
abbrev pub is_taking : Edit → Bool
is_taking (TakesIn space x) = true
is_taking (Creates procedure x) = false
is_taking (Commits space i) = false
is_taking (Copies space x) = false
is_taking (Injects space procedure) = false

-- an answer that makes such an edit
abbrev pub is_merge : Answer → Bool
is_merge (Edits edit) = is_taking edit
is_merge (Acts act) = false
is_merge (RaisesKind kind) = false
is_merge (RaisesTerm x) = false
is_merge (Operates op space x) = false
is_merge (Widens ts) = false
is_merge (Rests ready) = false

-- Two settled configurations are given, which may differ in all that is below a space. Where the space's layer and what it sees are the
-- same, and the same thread of it steps in both, where no propagator is due, with the same answer, which is no merge, the tells, propagators,
-- cells and ports of its layer are the same afterwards
abbrev pub OnlyMergeAdds : Type 0
OnlyMergeAdds =
    (k : Kernel) (c d e f : Configuration) (id : Ident) (rest others : List Ident) (m n : ℕ) → IsSettled k.statements c → IsSettled k.statements d
    → least_due c.layers ≡ None → least_due d.layers ≡ None → c.queue ≡ id ∷ rest → d.queue ≡ id ∷ others
    → layer_at c.layers id.space ≡ layer_at d.layers id.space → view c.layers id.space ≡ view d.layers id.space
    → answer_of k.statements c.layers id ≡ answer_of k.statements d.layers id → is_merge (answer_of k.statements c.layers id) ≡ false
    → Left (turn k c) m e → Left (turn k d) n f
    → contents_at e.layers id.space ≡ contents_at f.layers id.space

-- and so they are after a run of a propagator of the layer that is the least that is due in both
abbrev pub RunAddsItsOwn : Type 0
RunAddsItsOwn =
    (k : Kernel) (c d e f : Configuration) (due : Layer × Propagator) (m n : ℕ) → IsSettled k.statements c → IsSettled k.statements d
    → least_due c.layers ≡ Some due → least_due d.layers ≡ Some due → view c.layers due.0.space ≡ view d.layers due.0.space
    → Left (turn k c) m e → Left (turn k d) n f
    → contents_at e.layers due.0.space ≡ contents_at f.layers due.0.space
