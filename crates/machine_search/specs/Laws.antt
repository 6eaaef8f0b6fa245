-- The machine's nodes, and its tree over paths and over configurations.
use Rattle.std.specs.Prelude.{◌≡◌, ℕ, suc, ◌+◌, ◌-◌, ◌<◌, ◌≤◌, List, [], ◌∷◌, Some, None}
use Rattle.oz_language.specs.declared.kernel.Kernel.{Kernel}
use Rattle.oz_search.specs.Trees.{depth_first, in_steps, report}
use Rattle.oz_search.specs.Nodes.{IsMaker, IsFuelled}
use Rattle.oz_search.specs.Plain.{itself, outcomes}
use Rattle.oz_search.specs.declared.leaf.Outcome.{Outcome}
use Rattle.oz_search.specs.declared.tree.Kind.{Kind}
use Rattle.search_law.specs.NodeLaw.{leaves_alone}
use Rattle.oz_semantics.specs.Spaces.{state}
use Rattle.oz_semantics.specs.Runs.{Ended, run_for, run}
use Rattle.oz_semantics.specs.Search.{script_variable, with_root, search_space, state_text, kind_of, node_at, maker, space_tree, script_found}
use Rattle.oz_semantics.specs.declared.configuration.Configuration.{Configuration}
use Rattle.oz_semantics.specs.declared.outcome.State.{State}
use Rattle.machine_search.specs.Visits.{found_at, found_below, found_from, Visits}

-- Runs and nodes

-- a run does not depend on the bound of its turns, where that is above the fuel
abbrev pub BoundLaw : Type 0
BoundLaw = (k : Kernel) (space : List ℕ) (n m : ℕ) (c : Configuration) (fuel : ℕ) → fuel < n → fuel < m → run_for k space n c fuel ≡ run_for k space m c fuel

-- a node has a step at least, no more than the fuel, and is the same with any fuel that suffices
abbrev pub MakerLaw : Type 0
MakerLaw = (k : Kernel) (space : List ℕ) → IsMaker (maker k space)

-- the node of a run that ended, where the text of a leaf fits into what is left; the first step is that which made the configuration
abbrev pub NodeLaw : Type 0
NodeLaw =
    (k : Kernel) (space : List ℕ) (c : Configuration) (fuel : ℕ) (d : Configuration) (left : ℕ) (s : State) (kind : Kind Outcome) → run k space c fuel ≡ Ended d left
    → state k.statements d.layers space ≡ Some s → kind_of s (state_text k.words d space s).bytes ≡ Some kind → (state_text k.words d space s).nodes ≤ left
    → node_at k space (suc fuel) c ≡ Some (record { config = d; report = report kind (suc fuel - left + (state_text k.words d space s).nodes) })

-- and where it does not fit, there is none
abbrev pub NoNodeLaw : Type 0
NoNodeLaw =
    (k : Kernel) (space : List ℕ) (c : Configuration) (fuel : ℕ) (d : Configuration) (left : ℕ) (s : State) → run k space c fuel ≡ Ended d left
    → state k.statements d.layers space ≡ Some s → left < (state_text k.words d space s).nodes → node_at k space (suc fuel) c ≡ None

-- The traversal over configurations

-- it goes from a node to its children, and its bound does not matter
abbrev pub BelowLaw : Type 0
BelowLaw = (k : Kernel) (space : List ℕ) (c : Configuration) (fuel : ℕ) → found_below k space c fuel ≡ found_at k space (found_below k space) fuel (node_at k space fuel c)

-- the loop begins with one open configuration
abbrev pub BeginsLaw : Type 0
BeginsLaw = (k : Kernel) (space : List ℕ) (c : Configuration) (fuel : ℕ) → found_from k space [] (c ∷ []) fuel ≡ found_below k space c fuel

-- a visit of the first that is open spends a step at least, and changes nothing of what is found
abbrev pub VisitsLaw : Type 0
VisitsLaw =
    (k : Kernel) (space : List ℕ) (c : Configuration) (left next : ℕ) (opened after : List Configuration) (leaves leaves_after : List Outcome) → Visits k space c left next opened after leaves leaves_after
    → (next < left) × (found_from k space leaves_after after next ≡ found_from k space leaves (c ∷ opened) left)

-- where the fuel does not suffice for its node, nothing is found
abbrev pub StopsLaw : Type 0
StopsLaw =
    (k : Kernel) (space : List ℕ) (c : Configuration) (left : ℕ) (opened : List Configuration) (leaves : List Outcome) → node_at k space left c ≡ None
    → found_from k space leaves (c ∷ opened) left ≡ None

-- with none open all leaves are there
abbrev pub EndsLaw : Type 0
EndsLaw = (k : Kernel) (space : List ℕ) (leaves : List Outcome) (left : ℕ) → found_from k space leaves [] left ≡ Some (leaves, left)

-- The tree over paths

-- the trees with each fuel are parts of one
abbrev pub TreeLaw : Type 0
TreeLaw = (k : Kernel) (space : List ℕ) (c : Configuration) → IsFuelled outcomes (space_tree k space c)

-- what the traversal over paths finds, without the paths, is what that over configurations finds, with the steps in place of the fuel
-- that is left
abbrev pub SpaceLaw : Type 0
SpaceLaw =
    (k : Kernel) (space : List ℕ) (c : Configuration) (fuel : ℕ) → leaves_alone (depth_first outcomes itself (space_tree k space c fuel) fuel) ≡ in_steps fuel (found_below k space c fuel)

-- the same for the tree of the script
abbrev pub ScriptLaw : Type 0
ScriptLaw =
    (k : Kernel) (c : Configuration) (fuel : ℕ) → leaves_alone (script_found k c fuel) ≡ in_steps fuel (found_below k (search_space c) (with_root k.statements script_variable c) fuel)
