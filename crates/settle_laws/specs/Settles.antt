-- A step that leaves spaces inconsistent: these fail, and what the step does besides to the space that it is of may be done before or after.
use Rattle.std.specs.Prelude.{ℕ, ◌≡◌, true, false, List, [], ◌++◌, Contains, Option, Some}
use Rattle.oz_base.specs.declared.names.Ident.{Ident}
use Rattle.oz_language.specs.declared.kernel.Statement.{Statement}
use Rattle.oz_semantics.specs.Names.{is_properly_below}
use Rattle.oz_semantics.specs.Store.{is_consistent}
use Rattle.oz_semantics.specs.Configurations.{layer_at, layer_of, stack_of, view, in_layer, telling, ending}
use Rattle.oz_semantics.specs.Changes.{Change, changed_all}
use Rattle.oz_semantics.specs.Triggers.{triggered}
use Rattle.oz_semantics.specs.Settling.{Turned, term_variable, inconsistent_spaces, without_inconsistent, top_is_inconsistent, runnable, queue_after, settled}
use Rattle.oz_semantics.specs.declared.value.Tell.{Tell}
use Rattle.oz_semantics.specs.declared.configuration.Layer.{Layer}
use Rattle.oz_semantics.specs.declared.outcome.Stepped.TheVariants.{Moved}
use Rattle.view_laws.specs.Steps.{IsSound}

-- Of the layers `before`, in which no space but some below this one sees what is inconsistent, those that have not failed are left.
pub record Settles (space : List ℕ) (before after : List Layer) : Type 0 where
  pub below : (t : List ℕ) → Contains (inconsistent_spaces before) t → is_properly_below space t ≡ true
  pub left : after ≡ without_inconsistent before

-- a change of a layer that keeps its name, its status and what it was told
pub record IsQuiet (change : Layer → Layer) : Type 0 where
  pub space : (l : Layer) → (change l).space ≡ l.space
  pub status : (l : Layer) → (change l).status ≡ l.status
  pub tells : (l : Layer) → (change l).tells ≡ l.tells

-- Where nothing is inconsistent, nothing fails
abbrev pub NothingFails : Type 0
NothingFails = (space : List ℕ) (layers : List Layer) → inconsistent_spaces layers ≡ [] → Settles space layers layers

-- A quiet change makes nothing inconsistent, and nothing consistent
abbrev pub QuietFails : Type 0
QuietFails = (change : Layer → Layer) (layers : List Layer) (space : List ℕ) → IsQuiet change → inconsistent_spaces (in_layer space change layers) ≡ inconsistent_spaces layers

-- The space itself may be changed quietly before or after
abbrev pub QuietSettles : Type 0
QuietSettles =
    (change : Layer → Layer) (space : List ℕ) (before after : List Layer) → IsQuiet change → Settles space before after
    → Settles space (in_layer space change before) (in_layer space change after)

-- and so may a thread of it make its changes
abbrev pub ChangesSettle : Type 0
ChangesSettle =
    (id : Ident) (changes : List Change) (before after : List Layer) → Settles id.space before after
    → Settles id.space (changed_all id changes before) (changed_all id changes after)

-- the space's own layer is the same in both, and what is read of it
pub record HasSameOwn (space : List ℕ) (before after : List Layer) : Type 0 where
  pub at : layer_at after space ≡ layer_at before space
  pub layer : layer_of after space ≡ layer_of before space
  pub stack : (id : Ident) → id.space ≡ space → stack_of after id ≡ stack_of before id
  pub variable : term_variable after space ≡ term_variable before space

abbrev pub KeepsOwn : Type 0
KeepsOwn = (space : List ℕ) (before after : List Layer) → Settles space before after → HasSameOwn space before after

-- The space sees the same
abbrev pub KeepsView : Type 0
KeepsView = (space : List ℕ) (before after : List Layer) → Settles space before after → view after space ≡ view before space

-- However the space then ends, the same is left, since all that failed was below it
abbrev pub EndsSame : Type 0
EndsSame = (space : List ℕ) (how : Layer → Layer) (before after : List Layer) → Settles space before after → ending space how after ≡ ending space how before

-- What follows such a step is that what is needed begins, and the queue follows: the top has not failed
abbrev pub Settled : Type 0
Settled =
    (statements : List Statement) (mover : Option Ident) (cost : ℕ) (space : List ℕ) (before after : List Layer) (queue : List Ident) (shown : List (List ℕ)) → Settles space before after
    → ◌≡◌ {A = Turned} (settled statements mover cost (record { layers = before; queue = queue; shown = shown }))
    (Moved cost, record { layers = triggered statements after; queue = queue_after (runnable statements (triggered statements after)) mover queue; shown = shown })

abbrev pub TopKept : Type 0
TopKept = (space : List ℕ) (before after : List Layer) → Settles space before after → top_is_inconsistent before ≡ false

-- A space is told more, and only spaces below it see what is inconsistent
abbrev pub TellSettles : Type 0
TellSettles =
    (space : List ℕ) (ts : List Tell) (old new : List Layer) → ((t : List ℕ) → Contains (inconsistent_spaces (in_layer space (telling ts) old)) t → is_properly_below space t ≡ true)
    → new ≡ without_inconsistent (in_layer space (telling ts) old) → Settles space (in_layer space (telling ts) old) new

-- So it is where nothing was inconsistent before, and what is told is consistent with what the space sees
abbrev pub TellBelow : Type 0
TellBelow =
    (space : List ℕ) (ts : List Tell) (old : List Layer) (l : Layer) → IsSound old → layer_at old space ≡ Some l → is_consistent (view old space ++ ts) ≡ true
    → (t : List ℕ) → Contains (inconsistent_spaces (in_layer space (telling ts) old)) t → is_properly_below space t ≡ true
