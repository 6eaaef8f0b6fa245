-- The nodes of a machine's search that show the tree of a search over stores, and what their depth-first traversal finds (Schulte,
-- LNCS 2302, on search; CTM 12.4).
use Rattle.std.specs.Prelude.{◌≡◌, ℕ, ◌+◌, ◌-◌, ◌<◌, ◌≤◌, false, List, map, Some, None}
use Rattle.oz_language.specs.declared.kernel.Kernel.{Kernel}
use Rattle.oz_search.specs.declared.leaf.Outcome.{Outcome}
use Rattle.oz_search.specs.declared.leaf.Outcome.TheVariants as outcome
use Rattle.oz_search.specs.declared.tree.Kind.TheVariants.{Alternatives, End}
use Rattle.oz_search.specs.Nodes.{Reached}
use Rattle.oz_search.specs.Plain.{is_failed}
use Rattle.search_law.specs.NodeLaw.{leaves_alone}
use Rattle.oz_semantics.specs.Search.{script_variable, with_root, search_space, chosen_in, node_at, script_found}
use Rattle.oz_semantics.specs.declared.configuration.Configuration.{Configuration}
use Rattle.machine_search.specs.Visits.{found_below}
use Rattle.fd_stores.specs.Stores.{Store}
use Rattle.fd_trees.specs.Trees.{Tree, Failed, Leaf, Choice, leaves}

-- the node of a space that was just made or committed, where there is fuel enough
abbrev pub IsNode : Kernel → List ℕ → Configuration → Reached Configuration Outcome → Type 0
IsNode k space c n = (fuel : ℕ) × (node_at k space fuel c ≡ Some n)

-- each node is of the kind of its part of the tree, a leaf with what is shown of its store; j is the sum of all steps
pub data ShowsTree (k : Kernel) (space : List ℕ) (shown : Store → Outcome) : Configuration → Tree → ℕ → Type 0 where
  failed : {c : Configuration} (n : Reached Configuration Outcome) → IsNode k space c n → n.report.kind ≡ End outcome.Failed → ShowsTree k space shown c Failed n.report.steps
  leaf : {c : Configuration} {m : Store} (n : Reached Configuration Outcome) → IsNode k space c n → n.report.kind ≡ End (shown m) → is_failed (shown m) ≡ false → ShowsTree k space shown c (Leaf m) n.report.steps
  choice : {c : Configuration} {l r : Tree} {a b : ℕ} (n : Reached Configuration Outcome) → IsNode k space c n → n.report.kind ≡ Alternatives 2
      → ShowsTree k space shown (chosen_in k.statements space 1 n.config) l a → ShowsTree k space shown (chosen_in k.statements space 2 n.config) r b
      → ShowsTree k space shown c (Choice l r) (n.report.steps + (a + b))

-- the leaves that are found below are those of the tree, in all steps, and none where the fuel is less
pub record FindsTree (k : Kernel) (space : List ℕ) (shown : Store → Outcome) (c : Configuration) (t : Tree) (j : ℕ) : Type 0 where
  pub enough : (fuel : ℕ) → j ≤ fuel → found_below k space c fuel ≡ Some (map shown (leaves t), fuel - j)
  pub short : (fuel : ℕ) → fuel < j → found_below k space c fuel ≡ None

abbrev pub NodesLaw : Type 0
NodesLaw = (k : Kernel) (space : List ℕ) (shown : Store → Outcome) (c : Configuration) (t : Tree) (j : ℕ) → ShowsTree k space shown c t j → FindsTree k space shown c t j

-- and so are those that are found of a script, where the top has come to rest
pub record FindsScript (k : Kernel) (shown : Store → Outcome) (c : Configuration) (t : Tree) (j : ℕ) : Type 0 where
  pub enough : (fuel : ℕ) → j ≤ fuel → leaves_alone (script_found k c fuel) ≡ Some (map shown (leaves t), j)
  pub short : (fuel : ℕ) → fuel < j → script_found k c fuel ≡ None

abbrev pub FoundLaw : Type 0
FoundLaw =
    (k : Kernel) (shown : Store → Outcome) (c : Configuration) (t : Tree) (j : ℕ) → ShowsTree k (search_space c) shown (with_root k.statements script_variable c) t j → FindsScript k shown c t j
