-- The depth-first traversal over configurations, as a loop over the open ones makes it (CTM 12.4; Schulte, LNCS 2302, on search).
use Rattle.std.specs.Prelude.{◌≡◌, ℕ, zero, suc, ◌-◌, if◌then◌else◌, List, [], ◌∷◌, ◌++◌, Option, Some, None, map}
use Rattle.std.specs.List.{range_with_len}
use Rattle.oz_language.specs.declared.kernel.Kernel.{Kernel}
use Rattle.oz_search.specs.Trees.{Found, with_front, visit_all}
use Rattle.oz_search.specs.Nodes.{Reached}
use Rattle.oz_search.specs.Plain.{is_failed}
use Rattle.oz_search.specs.declared.leaf.Outcome.{Outcome}
use Rattle.oz_search.specs.declared.tree.Kind.{Kind}
use Rattle.oz_search.specs.declared.tree.Kind.TheVariants.{Alternatives, End}
use Rattle.oz_semantics.specs.Search.{chosen_in, node_at}
use Rattle.oz_semantics.specs.declared.configuration.Configuration.{Configuration}

-- A node

-- an unfailed leaf is a leaf that is found
abbrev pub leaf_of : Kind Outcome → List Outcome
leaf_of (Alternatives n) = []
leaf_of (End outcome) = if is_failed outcome then [] else outcome ∷ []

-- a choice has children, left to right; d is the configuration in which it has stopped
abbrev pub children_of : Kernel → List ℕ → Configuration → Kind Outcome → List Configuration
children_of k space d (Alternatives n) = map (λ i. chosen_in k.statements space i d) (range_with_len 1 n)
children_of k space d (End outcome) = []

-- its leaf, and then what is found below its children, each with the fuel that is left
abbrev pub found_at : Kernel → List ℕ → (Configuration → ℕ → Found Outcome) → ℕ → Option (Reached Configuration Outcome) → Found Outcome
found_at k space visit fuel None = None
found_at k space visit fuel (Some node) =
    with_front (leaf_of node.report.kind) (visit_all visit (children_of k space node.config node.report.kind) (fuel - node.report.steps))

-- The tree below a configuration in which the space was just made or committed

-- so many levels of it. Each node costs 1 at least, so one more than the fuel never stops it
unfoldable pub explored : Kernel → List ℕ → ℕ → Configuration → ℕ → Found Outcome
explored k space zero c fuel = None
explored k space (suc bound) c fuel = found_at k space (explored k space bound) fuel (node_at k space fuel c)

-- its unfailed leaves from left to right, and the fuel that is left. None where this does not suffice
unfoldable pub found_below : Kernel → List ℕ → Configuration → ℕ → Found Outcome
found_below k space c fuel = explored k space (suc fuel) c fuel

-- the leaves alone
abbrev pub leaves_of : Found Outcome → Option (List Outcome)
leaves_of None = None
leaves_of (Some found) = Some found.0

-- The loop

-- the leaves so far, and then what is found below open configurations with the fuel that is left
abbrev pub found_from : Kernel → List ℕ → List Outcome → List Configuration → ℕ → Found Outcome
found_from k space leaves opened left = with_front leaves (visit_all (found_below k space) opened left)

-- a visit of the configuration c finds its node within the fuel, of which this is left; its children are opened before the others,
-- and its leaf comes behind those so far
pub record Visits (k : Kernel) (space : List ℕ) (c : Configuration) (fuel left : ℕ) (opened opened_after : List Configuration) (leaves leaves_after : List Outcome) : Type 0 where
  pub node : Reached Configuration Outcome
  pub made : node_at k space fuel c ≡ Some node
  pub spends : left ≡ fuel - node.report.steps
  pub opens : opened_after ≡ children_of k space node.config node.report.kind ++ opened
  pub adds : leaves_after ≡ leaves ++ leaf_of node.report.kind
