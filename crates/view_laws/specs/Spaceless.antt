-- Layers in which no space is a value. There a thread goes by what it sees alone, whatever the states of the spaces below.
use Rattle.std.specs.Prelude.{ℕ, ◌≡◌, Bool, true, false, List, ◌++◌, Some, is_some}
use Rattle.std.specs.List.{list_any}
use Rattle.oz_language.specs.declared.kernel.Statement.{Statement}
use Rattle.oz_semantics.specs.Values.{space_in}
use Rattle.oz_semantics.specs.Configurations.{layer_at, in_layer}
use Rattle.oz_semantics.specs.Sights.{Sight, States, Readiness}
use Rattle.oz_semantics.specs.Statements.{stack_answer}
use Rattle.oz_semantics.specs.Readiness.{answer_ready}
use Rattle.oz_semantics.specs.Spaces.{sight, answer_in, ready_in}
use Rattle.oz_semantics.specs.declared.value.Tell.{Tell}
use Rattle.oz_semantics.specs.declared.value.Tell.TheVariants.{Equal, Is, Within}
use Rattle.oz_semantics.specs.declared.configuration.Frame.{Frame}
use Rattle.oz_semantics.specs.declared.configuration.Thread.{Thread}
use Rattle.oz_semantics.specs.declared.configuration.Layer.{Layer}
use Rattle.view_laws.specs.Sights.{KeepsTells}

-- a variable is a space
abbrev pub gives_space : Tell → Bool
gives_space (Is x v) = is_some (space_in v)
gives_space (Equal x y) = false
gives_space (Within x is) = false

-- a layer was told of one
abbrev pub knows_space : Layer → Bool
knows_space l = list_any gives_space l.tells

abbrev pub has_spaces : List Layer → Bool
has_spaces layers = list_any knows_space layers

-- what a thread can do by what it sees, where it waits for the state of each space on which its statement operates
abbrev pub plain_ready : Sight → Thread → Readiness
plain_ready s t = answer_ready (stack_answer s t.frames)

-- A space that sees no space answers by what it sees alone
abbrev pub SpacelessAnswer : Type 0
SpacelessAnswer =
    (statements : List Statement) (layers : List Layer) (states : States) (space : List ℕ) (frames : List Frame) → list_any gives_space (sight statements layers space).view ≡ false
    → answer_in statements layers states space frames ≡ stack_answer (sight statements layers space) frames

-- and so do all where no space is a value
abbrev pub SpacelessReady : Type 0
SpacelessReady =
    (statements : List Statement) (layers : List Layer) (states : States) (space : List ℕ) (t : Thread) → has_spaces layers ≡ false
    → ready_in statements layers states space t ≡ plain_ready (sight statements layers space) t

-- No change that tells nothing makes a space a value, or ends that
abbrev pub QuietSpaceless : Type 0
QuietSpaceless =
    (change : Layer → Layer) (layers : List Layer) (space : List ℕ) → KeepsTells layers space change → has_spaces (in_layer space change layers) ≡ has_spaces layers

-- nor does one that tells of none
abbrev pub TellSpaceless : Type 0
TellSpaceless =
    (change : Layer → Layer) (layers : List Layer) (space : List ℕ) (ts : List Tell) → ((l : Layer) → (change l).tells ≡ l.tells ++ ts)
    → list_any gives_space ts ≡ false → has_spaces layers ≡ false → has_spaces (in_layer space change layers) ≡ false

-- Where no space is a value after a tell, none was before, and nothing that was told gives one
abbrev pub UntoldSpaceless : Type 0
UntoldSpaceless =
    (change : Layer → Layer) (layers : List Layer) (space : List ℕ) (ts : List Tell) → ((l : Layer) → layer_at layers space ≡ Some l → (change l).tells ≡ l.tells ++ ts)
    → is_some (layer_at layers space) ≡ true → has_spaces (in_layer space change layers) ≡ false → (has_spaces layers ≡ false) × (list_any gives_space ts ≡ false)
