-- Layers of a tree, with their threads in the order of their numbers, and the edits that leave them so.
use Rattle.std.specs.Prelude.{ℕ, ◌≡◌, true, ◌&&◌, List, [], Contains, is_some}
use Rattle.oz_base.specs.Lists.{holds_of}
use Rattle.oz_base.specs.declared.names.Ident.{Ident}
use Rattle.oz_language.specs.declared.kernel.Statement.{Statement}
use Rattle.oz_semantics.specs.Configurations.{layer_at, layer_of, thread_at, is_open, in_layer, with_frames, without_terminated, telling, giving_out, counting_procedure, counting_name, counting_child, spawning, adding_cell, with_content, adding_port, with_end, adding_trigger, failed, raised_by}
use Rattle.oz_semantics.specs.Sights.{Sight, can_step}
use Rattle.oz_semantics.specs.Spaces.{thread_ready}
use Rattle.oz_base.specs.declared.relation.Relation.{Relation}
use Rattle.oz_semantics.specs.Store.{View}
use Rattle.oz_semantics.specs.Propagation.{posting, after_run}
use Rattle.oz_semantics.specs.Edits.{committing, created, committed}
use Rattle.oz_semantics.specs.Changes.{Change, changed_all, done}
use Rattle.oz_semantics.specs.Settling.{is_among, runnable}
use Rattle.oz_semantics.specs.Steps.{without_top}
use Rattle.oz_semantics.specs.declared.value.Tell.{Tell}
use Rattle.oz_semantics.specs.declared.configuration.Frame.{Frame}
use Rattle.oz_semantics.specs.declared.configuration.Thread.{Thread}
use Rattle.oz_semantics.specs.declared.configuration.Propagator.{Propagator}
use Rattle.oz_semantics.specs.declared.configuration.Layer.{Layer}
use Rattle.view_laws.specs.Trees.{IsTree}
use Rattle.view_laws.specs.Steps.{IsNumbered}
use Rattle.need_laws.specs.Needs.{AllFire}

-- an edit of a layer that leaves its threads in the order of their numbers
abbrev pub KeepsNumbered : (Layer → Layer) → Type 0
KeepsNumbered f = (l : Layer) → IsNumbered l → IsNumbered (f l)

-- So each edit of a layer does
pub record EditsNumbered : Type 0 where
  pub frames : (number : ℕ) (change : List Frame → List Frame) → KeepsNumbered (with_frames number change)
  pub terminated : KeepsNumbered without_terminated
  pub tells : (ts : List Tell) → KeepsNumbered (telling ts)
  pub variables : (n : ℕ) → KeepsNumbered (giving_out n)
  pub procedure : KeepsNumbered counting_procedure
  pub name : KeepsNumbered counting_name
  pub child : KeepsNumbered counting_child
  pub threads : (fs : List Frame) → KeepsNumbered (spawning fs)
  pub cell : (content : Ident) → KeepsNumbered (adding_cell content)
  pub content : (number : ℕ) (content : Ident) → KeepsNumbered (with_content number content)
  pub port : (end : Ident) → KeepsNumbered (adding_port end)
  pub end : (number : ℕ) (end : Ident) → KeepsNumbered (with_end number end)
  pub trigger : (procedure variable : Ident) → KeepsNumbered (adding_trigger procedure variable)
  pub propagator : (r : Relation) (xs : List Ident) → KeepsNumbered (posting r xs)
  pub run : (v : View) (p : Propagator) (ts : List Tell) → KeepsNumbered (after_run v p ts)
  pub choice : (s : Sight) (i : ℕ) → KeepsNumbered (committing s i)
  pub failure : KeepsNumbered failed
  pub exception : (x : Ident) → KeepsNumbered (raised_by x)

-- the layers are those of a tree, the top is there, and in each layer the threads stand in the order of their numbers
pub record AreOrderly (layers : List Layer) : Type 0 where
  pub tree : IsTree layers
  pub top : is_some (layer_at layers []) ≡ true
  pub numbered : (l : Layer) → Contains layers l → IsNumbered l

-- So they are after the changes of a step that tells nothing
abbrev pub ChangesOrderly : Type 0
ChangesOrderly =
    (id : Ident) (changes : List Change) (layers : List Layer) → AreOrderly layers → AreOrderly (in_layer id.space without_terminated (changed_all id changes (without_top id layers)))

-- and after those of a step that tells something
abbrev pub DoneOrderly : Type 0
DoneOrderly =
    (id : Ident) (ts : List Tell) (changes : List Change) (layers : List Layer) → AreOrderly layers → AreOrderly (in_layer id.space without_terminated (done id ts changes (without_top id layers)))

-- and where a thread goes on with another stack
abbrev pub StackOrderly : Type 0
StackOrderly =
    (id : Ident) (frames : List Frame) (layers : List Layer) → AreOrderly layers
    → AreOrderly (in_layer id.space without_terminated (in_layer id.space (with_frames id.number (λ rest. frames)) (without_top id layers)))

-- and where a child of a space that is there is created
abbrev pub CreatedOrderly : Type 0
CreatedOrderly = (parent : List ℕ) (procedure : Ident) (layers : List Layer) → is_some (layer_at layers parent) ≡ true → AreOrderly layers → AreOrderly (created parent procedure layers)

-- or a space is committed
abbrev pub CommittedOrderly : Type 0
CommittedOrderly = (statements : List Statement) (space : List ℕ) (i : ℕ) (layers : List Layer) → AreOrderly layers → AreOrderly (committed statements space i layers)

-- and where by-need computations begin
abbrev pub FiredOrderly : Type 0
FiredOrderly = (layers after : List Layer) → AllFire layers after → AreOrderly layers → AreOrderly after

-- Then its own layer and thread alone tell whether a thread is among those that can step
abbrev pub MoverAlone : Type 0
MoverAlone =
    (statements : List Statement) (layers : List Layer) (id : Ident) → AreOrderly layers
    → is_among (runnable statements layers) id
    ≡ (is_open (layer_of layers id.space).status
    && holds_of (λ (t : Thread). can_step (thread_ready statements layers id.space t)) (thread_at (layer_of layers id.space).threads id.number))
