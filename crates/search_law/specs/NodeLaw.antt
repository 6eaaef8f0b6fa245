-- What holds of the nodes of a tree that a machine makes.
use Rattle.std.specs.Prelude.{◌≡◌, ℕ, zero, suc, ◌-◌, ◌≤◌, ◌<◌, true, List, [], ◌∷◌, ◌++◌, Option, Some, None, map, length, if◌then◌else◌}
use Rattle.std.specs.List.{range_with_len}
use Rattle.oz_search.specs.declared.history.Entry.TheVariants.{Stop}
use Rattle.oz_search.specs.declared.history.Halt.{Halt}
use Rattle.oz_search.specs.declared.history.StopCause.{StopCause}
use Rattle.oz_search.specs.declared.history.StopCause.TheVariants.{Fuel}
use Rattle.oz_search.specs.declared.tree.Report.{Report}
use Rattle.oz_search.specs.declared.tree.Kind.{Kind}
use Rattle.oz_search.specs.declared.tree.Kind.TheVariants.{Alternatives, End}
use Rattle.oz_search.specs.Searches.{Search, IsSearch}
use Rattle.oz_search.specs.Paths.{Taking, is_among}
use Rattle.oz_search.specs.Trees.{Found, visit_all, explore}
use Rattle.oz_search.specs.Histories.{History, IsLegal, is_claimed, claim_of}
use Rattle.oz_search.specs.Nodes.{Reached, Maker, IsMaker, Node, OutOfFuel, NotANode, met_by_kind, met_from, met, tree, Fuelled, IsNodeAt, IsFuelled}

-- the worker w stops for this cause
abbrev pub halt : ℕ → StopCause → Halt
halt w cause = record { worker = w; cause = cause }

-- ---- fuel

-- a node does not depend on the fuel, where it suffices
abbrev pub FuelLaw : Type 0 → Type 0 → Type 0 → Type 0
FuelLaw B L C =
    (k : Search B L) (m : Maker B L C) → IsMaker m → (f g : ℕ) (c : C) (p : List B) (r : Reached C L) → met k m f c p ≡ Node r → f ≤ g → met k m g c p ≡ Node r

-- what is made with each fuel belongs to one tree
abbrev pub TreeLaw : Type 0 → Type 0 → Type 0 → Type 0
TreeLaw B L C = (k : Search B L) (m : Maker B L C) → IsMaker m → (c : C) → IsFuelled k (λ f. tree k m f c)

-- in which a path has at most one node
abbrev pub UniqueLaw : Type 0 → Type 0 → Type 0
UniqueLaw B L = (k : Search B L) (within : Fuelled B L) → IsFuelled k within → (p : List B) (r s : Report L) → IsNodeAt within p r → IsNodeAt within p s → r ≡ s

-- after a legal history: where a path is claimed and its node is not there within the budget, the node has more own steps than the
-- budget
abbrev pub ClaimedLaw : Type 0 → Type 0 → Type 0
ClaimedLaw B L =
    (k : Search B L) → IsSearch k → (within : Fuelled B L) → IsFuelled k within → (budget : ℕ) (h : History B L) → IsLegal within k budget h → (p : List B) (r : Report L) → is_claimed k h p ≡ true
    → within budget p ≡ None → IsNodeAt within p r → budget < r.steps

-- and a claimed node that has no more own steps than the budget is there within it
abbrev pub ThereLaw : Type 0 → Type 0 → Type 0
ThereLaw B L =
    (k : Search B L) → IsSearch k → (within : Fuelled B L) → IsFuelled k within → (budget : ℕ) (h : History B L) → IsLegal within k budget h → (w : ℕ) (p : List B) (r : Report L)
    → claim_of h w ≡ Some p → IsNodeAt within p r → r.steps ≤ budget → within budget p ≡ Some r

-- a worker that stops because of the fuel has claimed such a node
abbrev pub StopLaw : Type 0 → Type 0 → Type 0
StopLaw B L =
    (k : Search B L) → IsSearch k → (within : Fuelled B L) → IsFuelled k within → (budget : ℕ) (h before after : History B L) (w : ℕ) → IsLegal within k budget h
    → h ≡ before ++ Stop (halt w Fuel) ∷ after → (p : List B) × (claim_of before w ≡ Some p) × ((r : Report L) → IsNodeAt within p r → budget < r.steps)

-- ---- recomputation

-- the node at a path that goes on by b from a node is the configuration of that node, committed to b, and run; and there is one
-- only behind a choice of which b takes an alternative
abbrev pub ParentLaw : Type 0 → Type 0 → Type 0 → Type 0
ParentLaw B L C =
    (k : Search B L) (m : Maker B L C) (f : ℕ) (c : C) (p : List B) (b : B) (r : Reached C L) → met k m f c (p ++ b ∷ []) ≡ Node r
    → (x : Reached C L) × (n : ℕ) × (met k m f c p ≡ Node x) × (x.report.kind ≡ Alternatives n) × (is_among k n b ≡ true) × (m.run f (m.commit b x.config) ≡ Some r)

-- from each node on the way the rest of a path is found without what is before it
abbrev pub PrefixLaw : Type 0 → Type 0 → Type 0 → Type 0
PrefixLaw B L C =
    (k : Search B L) (m : Maker B L C) (f : ℕ) (c : C) (p : List B) (b : B) (q : List B) (r : Reached C L) → met k m f c p ≡ Node r
    → met k m f c (p ++ b ∷ q) ≡ met_by_kind k (length p) b r.report.kind (met_from k m f (suc (length p)) (m.commit b r.config) q)

-- where a path is refused, so is each that goes on from it, in the same way
abbrev pub RefusedLaw : Type 0 → Type 0 → Type 0 → Type 0
RefusedLaw B L C =
    (k : Search B L) (m : Maker B L C) (f : ℕ) (c : C) (p q : List B) (i : ℕ)
    → (met k m f c p ≡ OutOfFuel i → met k m f c (p ++ q) ≡ OutOfFuel i) × (met k m f c p ≡ NotANode i → met k m f c (p ++ q) ≡ NotANode i)

-- ---- the traversal by configurations alone, as a loop over open configurations makes it

module _ {B L C : Type 0} (k : Search B L) (m : Maker B L C) where
  -- the leaf, where it is an unfailed one
  abbrev pub leaf_alone : L → List L
  leaf_alone l = if k.fails l then [] else (l ∷ [])

  -- what is found below a configuration of this kind, where `visit` goes through each child
  abbrev pub found_in_kind : (C → ℕ → Found L) → C → Kind L → ℕ → Found L
  found_in_kind visit c (Alternatives n) left = visit_all visit (map (λ i. m.commit (k.free i) c) (range_with_len 1 n)) left
  found_in_kind visit c (End l) left = Some (leaf_alone l, left)

  -- the same of a node with its own steps, which it first takes from the fuel
  abbrev pub found_in : (C → ℕ → Found L) → Option (Reached C L) → ℕ → Found L
  found_in visit None fuel = None
  found_in visit (Some r) fuel = found_in_kind visit r.config r.report.kind (fuel - r.report.steps)

  -- the leaves below the configuration c, which was just made, and the fuel that is left
  unfoldable pub explored : ℕ → C → ℕ → Found L
  explored zero c fuel = None
  explored (suc bound) c fuel = found_in (explored bound) (m.run fuel c) fuel

-- each alternative is taken by the branch that fixes nothing else
abbrev pub freely : {B L : Type 0} → Search B L → Taking B
freely k p i = k.free i

-- the leaves without their paths
abbrev pub leaves_alone : {B L : Type 0} → Found (List B × L) → Found L
leaves_alone None = None
leaves_alone {B} {L} (Some r) = Some (map (λ (x : List B × L). x.1) r.0, r.1)

-- it finds the leaves of the tree over the paths, with as much fuel for each node as there is for all
abbrev pub ConfigLaw : Type 0 → Type 0 → Type 0 → Type 0
ConfigLaw B L C =
    (k : Search B L) → IsSearch k → (m : Maker B L C) → IsMaker m → (bound fuel : ℕ) (c : C) → explored k m bound c fuel ≡ leaves_alone (explore k (freely k) (tree k m fuel c) bound [] fuel)
