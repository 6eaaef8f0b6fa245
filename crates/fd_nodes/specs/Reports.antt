-- A tree of reports that shows the tree of a search over stores, and what its depth-first traversal finds (Schulte, LNCS 2302,
-- on search).
use Rattle.std.specs.Prelude.{◌≡◌, ℕ, ◌+◌, ◌<◌, ◌≤◌, true, false, List, [], ◌∷◌, ◌++◌, Some, None}
use Rattle.oz_search.specs.declared.tree.Kind.TheVariants.{Alternatives, End}
use Rattle.oz_search.specs.Searches.{Search}
use Rattle.oz_search.specs.Paths.{Taking}
use Rattle.oz_search.specs.Trees.{Tree as ReportTree, report, Costs, depth_first}
use Rattle.fd_stores.specs.Stores.{Store}
use Rattle.fd_trees.specs.Trees.{Tree, Failed, Leaf, Choice}

-- at each path stands the report of the node there, at a leaf that which is shown of its store; n is the sum of all steps
pub data Shows {B L : Type 0} (k : Search B L) (branch : Taking B) (node : ReportTree B L) (shown : Store → L) : List B → Tree → ℕ → Type 0 where
  failed : {p : List B} {s : ℕ} (l : L) → node p ≡ Some (report (End l) s) → k.fails l ≡ true → Shows k branch node shown p Failed s
  leaf : {p : List B} {m : Store} {s : ℕ} → node p ≡ Some (report (End (shown m)) s) → k.fails (shown m) ≡ false → Shows k branch node shown p (Leaf m) s
  choice : {p : List B} {l r : Tree} {s a b : ℕ} → node p ≡ Some (report (Alternatives 2) s) → Shows k branch node shown (p ++ branch p 1 ∷ []) l a → Shows k branch node shown (p ++ branch p 2 ∷ []) r b
      → Shows k branch node shown p (Choice l r) (s + (a + b))

-- what is shown of the leaves with their paths, from left to right
abbrev pub shown_leaves : {B L : Type 0} → Taking B → (Store → L) → List B → Tree → List (List B × L)
shown_leaves branch shown p Failed = []
shown_leaves branch shown p (Leaf m) = (p, shown m) ∷ []
shown_leaves branch shown p (Choice l r) = shown_leaves branch shown (p ++ branch p 1 ∷ []) l ++ shown_leaves branch shown (p ++ branch p 2 ∷ []) r

-- the traversal finds them in all steps, and nothing where the fuel is less
pub record Traverses {B L : Type 0} (k : Search B L) (branch : Taking B) (node : ReportTree B L) (shown : Store → L) (t : Tree) (n : ℕ) : Type 0 where
  pub enough : (fuel : ℕ) → n ≤ fuel → depth_first k branch node fuel ≡ Some (shown_leaves branch shown [] t, n)
  pub short : (fuel : ℕ) → fuel < n → depth_first k branch node fuel ≡ None

abbrev pub ReportsLaw : Type 0 → Type 0 → Type 0
ReportsLaw B L =
    (k : Search B L) (branch : Taking B) (node : ReportTree B L) (shown : Store → L) (t : Tree) (n : ℕ) → Costs node → Shows k branch node shown [] t n → Traverses k branch node shown t n
