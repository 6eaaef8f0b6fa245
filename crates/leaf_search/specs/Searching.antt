-- The search as it stands: the nodes whose alternatives wait, and what a node adds.
use Rattle.std.specs.Prelude.{ℕ, ◌+◌, ◌≡◌, Bool, true, false, List, [], ◌∷◌, ◌++◌, Option, Some, None, map}
use Rattle.std.specs.List.{range_with_len}
use Rattle.oz_language.specs.declared.kernel.Kernel.{Kernel}
use Rattle.oz_search.specs.declared.leaf.Outcome.{Outcome}
use Rattle.oz_search.specs.declared.leaf.Outcome.TheVariants as outcome
use Rattle.oz_semantics.specs.Search.{chosen_in}
use Rattle.oz_semantics.specs.declared.configuration.Configuration.{Configuration}
use Rattle.oz_semantics.specs.declared.outcome.State.{State}
use Rattle.oz_semantics.specs.declared.outcome.State.TheVariants as states
use Rattle.oz_machine.specs.Courses.{Loaded}
use Rattle.oz_machine.specs.declared.runs.Ran.{Ran}
use Rattle.oz_machine.specs.declared.runs.Ran.TheVariants as ran
use Rattle.leaf_search.specs.declared.open.Open.{Open}
use Rattle.leaf_search.specs.declared.open.Rest.{Rest}

-- the alternatives of a node that wait, from the left
abbrev pub alternatives_of : List ℕ → Open → List Configuration
alternatives_of space o = map (λ i. chosen_in o.machine.kernel.statements space i o.machine.config) (range_with_len (o.taken + 1) o.left)

-- all that wait, those of the last node first
abbrev pub waiting : List ℕ → List Open → List Configuration
waiting space [] = []
waiting space (o ∷ os) = alternatives_of space o ++ waiting space os

-- all nodes are of one program
abbrev pub AreOf : Kernel → List Open → Type 0
AreOf k [] = Unit {0}
AreOf k (o ∷ os) = (o.machine.kernel ≡ k) × AreOf k os

-- the first that waits is this machine, and the others wait on
pub record OpensNext (space : List ℕ) (old new : List Open) (m : Loaded) : Type 0 where
  pub first : waiting space old ≡ m.config ∷ waiting space new
  pub kernel : (k : Kernel) → AreOf k old → (m.kernel ≡ k) × AreOf k new

-- no node is in such a state: the space still runs, or has become a part of another one
abbrev pub is_no_node : State → Bool
is_no_node states.Running = true
is_no_node states.Merged = true
is_no_node states.Suspended = false
is_no_node states.Failed = false
is_no_node (states.Raised x) = false
is_no_node (states.Alternatives n) = false
is_no_node states.Solved = false
is_no_node states.Stuck = false

-- in a run that ends so the space has not come to rest: the fuel was wanting, or what no search comes to
abbrev pub Restless : Ran → Type 0
Restless ran.OutOfFuel = Unit {0}
Restless (ran.TopEnded exception steps) = Unit {0}
Restless (ran.Ended None steps) = Unit {0}
Restless (ran.Ended (Some s) steps) = is_no_node s ≡ true

-- how a space came to rest by a run, if it did
abbrev pub RestsBy : Ran → Option Rest → Type 0
RestsBy r None = Restless r
RestsBy r (Some rest) = (r ≡ ran.Ended (Some rest.state) rest.steps) × (is_no_node rest.state ≡ false)

-- what a node in this state adds to what waits, and to the leaves
abbrev pub children_by : Kernel → List ℕ → Configuration → State → List Configuration
children_by k space c (states.Alternatives n) = map (λ i. chosen_in k.statements space i c) (range_with_len 1 n)
children_by k space c states.Running = []
children_by k space c states.Merged = []
children_by k space c states.Suspended = []
children_by k space c states.Failed = []
children_by k space c (states.Raised x) = []
children_by k space c states.Solved = []
children_by k space c states.Stuck = []

abbrev pub leaf_by : State → List ℕ → List Outcome
leaf_by states.Solved text = outcome.Solved text ∷ []
leaf_by states.Stuck text = outcome.Stuck text ∷ []
leaf_by (states.Raised x) text = outcome.Raised text ∷ []
leaf_by states.Suspended text = outcome.Suspended ∷ []
leaf_by states.Failed text = []
leaf_by (states.Alternatives n) text = []
leaf_by states.Running text = []
leaf_by states.Merged text = []
