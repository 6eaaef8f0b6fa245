-- What each turn leaves, a queue of exactly the threads that can step, and what it costs.
use Rattle.std.specs.Prelude.{ℕ, ◌≡◌, ◌⊎◌, ◌≤◌, false, List, [], ◌∷◌, Option}
use Rattle.oz_base.specs.declared.names.Ident.{Ident}
use Rattle.oz_language.specs.declared.kernel.Statement.{Statement}
use Rattle.oz_language.specs.declared.kernel.Kernel.{Kernel}
use Rattle.oz_semantics.specs.Configurations.{spawning, frames_of}
use Rattle.oz_semantics.specs.Edits.{created, committed}
use Rattle.oz_semantics.specs.Settling.{Turned, settled, top_is_inconsistent}
use Rattle.oz_semantics.specs.Steps.{stepped}
use Rattle.oz_semantics.specs.Schedule.{turn}
use Rattle.oz_semantics.specs.Runs.{opening_environment, top_layer, opening}
use Rattle.oz_semantics.specs.Search.{followed, with_root, chosen_in}
use Rattle.oz_semantics.specs.declared.configuration.Layer.{Layer}
use Rattle.oz_semantics.specs.declared.configuration.Configuration.{Configuration}
use Rattle.oz_semantics.specs.declared.outcome.Stepped.{Stepped}
use Rattle.oz_semantics.specs.declared.outcome.Stepped.TheVariants.{Moved, TopEnded, Quiescent}
use Rattle.view_laws.specs.Queues.{IsExact}

-- the machine moved, and left this
abbrev pub Left : Turned → ℕ → Configuration → Type 0
Left t cost d = ◌≡◌ {A = Turned} t (Moved cost, d)

-- the queue holds exactly the threads that can step
abbrev pub HasExact : List Statement → Configuration → Type 0
HasExact statements d = IsExact statements d.layers d.queue

-- So it is after what follows a step
abbrev pub SettledExact : Type 0
SettledExact =
    (statements : List Statement) (mover : Option Ident) (cost : ℕ) (c : Configuration) (n : ℕ) (d : Configuration) → Left (settled statements mover cost c) n d → HasExact statements d

-- after each step
abbrev pub StepExact : Type 0
StepExact = (k : Kernel) (id : Ident) (c : Configuration) (n : ℕ) (d : Configuration) → Left (stepped k id c) n d → HasExact k.statements d

-- and after each turn
abbrev pub TurnExact : Type 0
TurnExact = (k : Kernel) (c : Configuration) (n : ℕ) (d : Configuration) → Left (turn k c) n d → HasExact k.statements d

-- after an edit by the search that leaves the top consistent
abbrev pub FollowedExact : Type 0
FollowedExact = (statements : List Statement) (c : Configuration) (layers : List Layer) → top_is_inconsistent layers ≡ false → HasExact statements (followed statements c layers)

-- the layers in which a program opens
abbrev pub opening_layers : Kernel → List Layer
opening_layers k = spawning (frames_of opening_environment k.body) top_layer ∷ []

-- where the program opens
abbrev pub OpeningExact : Type 0
OpeningExact = (k : Kernel) → HasExact k.statements (opening k)

-- where the search begins
abbrev pub RootExact : Type 0
RootExact = (statements : List Statement) (procedure : Ident) (c : Configuration) → top_is_inconsistent (created [] procedure c.layers) ≡ false → HasExact statements (with_root statements procedure c)

-- and where it commits a space
abbrev pub ChosenExact : Type 0
ChosenExact =
    (statements : List Statement) (space : List ℕ) (i : ℕ) (c : Configuration) → top_is_inconsistent (committed statements space i c.layers) ≡ false
    → HasExact statements (chosen_in statements space i c)

-- in steps
abbrev pub cost_of : Stepped → ℕ
cost_of (Moved cost) = cost
cost_of (TopEnded exception cost) = cost
cost_of Quiescent = 0

-- Each step costs something
abbrev pub CostLaw : Type 0
CostLaw = (k : Kernel) (id : Ident) (c : Configuration) → 1 ≤ cost_of (stepped k id c).0

-- and so does each turn, unless there is nothing to do
abbrev pub TurnCost : Type 0
TurnCost = (k : Kernel) (c : Configuration) → ((turn k c).0 ≡ Quiescent) ⊎ (1 ≤ cost_of (turn k c).0)
