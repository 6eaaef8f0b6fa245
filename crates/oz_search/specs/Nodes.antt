-- The node at a path: from the root, commit to each branch in turn, and run (Schulte, LNCS 2302, on recomputation).
use Rattle.std.specs.Prelude.{◌≡◌, ℕ, suc, ◌≤◌, ◌<◌, true, List, [], ◌∷◌, ◌++◌, Option, Some, None, if◌then◌else◌}
use lib.Dec.{leb}
use Rattle.oz_search.specs.declared.tree.Report.{Report}
use Rattle.oz_search.specs.declared.tree.Kind.{Kind}
use Rattle.oz_search.specs.declared.tree.Kind.TheVariants.{Alternatives, End}
use Rattle.oz_search.specs.Searches.{Search}
use Rattle.oz_search.specs.Paths.{is_among}
use Rattle.oz_search.specs.Trees.{Tree, report}

-- a node that was reached: the configuration in which it has stopped, and what is known of it
pub record Reached (C L : Type 0) : Type 0 where
  pub config : C
  pub report : Report L

-- a machine that makes nodes, with configurations C
pub record Maker (B L C : Type 0) : Type 0 where
  -- run a configuration that was just made, with this fuel. None where the node has more own steps
  pub run : ℕ → C → Option (Reached C L)
  -- commit to the branch the configuration of a choice
  pub commit : B → C → C

-- the node of c where it has at most g steps
abbrev pub if_within : {C L : Type 0} → ℕ → Reached C L → Option (Reached C L)
if_within g r = if leb r.report.steps g then Some r else None

-- a node has at least one own step, and at most as many as there was fuel; with other fuel there is the same node, or none
-- where it has more own steps
abbrev pub IsMaker : {B L C : Type 0} → Maker B L C → Type 0
IsMaker {B} {L} {C} m =
    (f : ℕ) (c : C) (r : Reached C L) → m.run f c ≡ Some r → (1 ≤ r.report.steps) × (r.report.steps ≤ f) × ((g : ℕ) → m.run g c ≡ if_within g r)

-- what is at a path: a node; or the node at its first `at` branches has more own steps than the fuel; or its branch number `at`,
-- from 1, takes no alternative of the node before it
pub data Met (C L : Type 0) : Type 0 where
  Node : Reached C L → Met C L
  OutOfFuel : (at : ℕ) → Met C L
  NotANode : (at : ℕ) → Met C L

module _ {B L C : Type 0} (k : Search B L) where
  -- where the node is the last of the path
  abbrev pub met_last : ℕ → Option (Reached C L) → Met C L
  met_last at None = OutOfFuel at
  met_last at (Some r) = Node r

  -- where it is not: the path goes on from a choice, by one of its alternatives
  abbrev pub met_by_kind : ℕ → B → Kind L → Met C L → Met C L
  met_by_kind at b (Alternatives n) next = if is_among k n b then next else NotANode (suc at)
  met_by_kind at b (End l) next = NotANode (suc at)

  -- where the path goes on by the branch b, and then as `next` says of the node's configuration
  abbrev pub met_next : ℕ → B → (C → Met C L) → Option (Reached C L) → Met C L
  met_next at b next None = OutOfFuel at
  met_next at b next (Some r) = met_by_kind at b r.report.kind (next r.config)

  -- from c, which was just made and is `at` branches below the root, by the path p, each node with this fuel
  abbrev pub met_from : Maker B L C → ℕ → ℕ → C → List B → Met C L
  met_from m fuel at c [] = met_last at (m.run fuel c)
  met_from m fuel at c (b ∷ p) = met_next at b (λ d. met_from m fuel (suc at) (m.commit b d) p) (m.run fuel c)

  -- at the path p, where c is the root
  abbrev pub met : Maker B L C → ℕ → C → List B → Met C L
  met m fuel c p = met_from m fuel 0 c p

-- what is known of the node, where there is one
abbrev pub report_met : {C L : Type 0} → Met C L → Option (Report L)
report_met (Node r) = Some r.report
report_met (OutOfFuel at) = None
report_met (NotANode at) = None

-- the tree below the configuration c, as far as it is made with this fuel for each node: the node at each path, if neither it nor
-- one on the way has more own steps. A node is the same with any fuel that suffices for it
abbrev pub tree : {B L C : Type 0} → Search B L → Maker B L C → ℕ → C → Tree B L
tree k m fuel c p = report_met (met k m fuel c p)

-- ---- trees as far as there is fuel

-- for each fuel the nodes that it suffices for, together with all on the way to them
abbrev pub Fuelled : Type 0 → Type 0 → Type 0
Fuelled B L = ℕ → Tree B L

-- r is known of the node at p, with some fuel
abbrev pub IsNodeAt : {B L : Type 0} → Fuelled B L → List B → Report L → Type 0
IsNodeAt within p r = (f : ℕ) × (within f p ≡ Some r)

-- they belong together: all of them are parts of one tree
pub record IsFuelled {B L : Type 0} (k : Search B L) (within : Fuelled B L) : Type 0 where
  -- a node has at least one step of its own, and no more than there is fuel
  pub costs : (f : ℕ) (p : List B) (r : Report L) → within f p ≡ Some r → (1 ≤ r.steps) × (r.steps ≤ f)
  -- it is there with more fuel too
  pub more : (f g : ℕ) (p : List B) (r : Report L) → within f p ≡ Some r → f ≤ g → within g p ≡ Some r
  -- it is an alternative of a choice that is there, or the root
  pub parent : (f : ℕ) (p : List B) (b : B) (r : Report L) → within f (p ++ b ∷ []) ≡ Some r → (n : ℕ) × (s : ℕ) × (within f p ≡ Some (report (Alternatives n) s)) × (is_among k n b ≡ true)
  -- of these one is missing only where it has more own steps than there is fuel
  pub root : (f : ℕ) (r : Report L) → within f [] ≡ None → IsNodeAt within [] r → f < r.steps
  pub child : (f : ℕ) (p : List B) (b : B) (n s : ℕ) (r : Report L) → within f p ≡ Some (report (Alternatives n) s) → is_among k n b ≡ true → within f (p ++ b ∷ []) ≡ None → IsNodeAt within (p ++ b ∷ []) r → f < r.steps
