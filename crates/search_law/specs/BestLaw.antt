-- Best search finds the least cost (branch and bound; Schulte, LNCS 2302, on search).
use Rattle.std.specs.Prelude.{◌≡◌, ℕ, ◌≤◌, ℤ, ◌≤ℤ◌, ◌<ℤ◌, Bool, true, List, [], ◌∷◌, ◌++◌, Option, Some, None}
use Rattle.oz_search.specs.declared.best.Bounded.{Bounded}
use Rattle.oz_search.specs.declared.best.Costed.{Costed}
use Rattle.oz_search.specs.declared.tree.Kind.TheVariants.{Alternatives, End}
use Rattle.oz_search.specs.Trees.{Tree, Costs, report}
use Rattle.oz_search.specs.Nodes.{Fuelled}
use Rattle.oz_search.specs.Histories.{IsLegal, IsNothingOpen, IsNothingOut}
use Rattle.oz_search.specs.Best.{BestEntry, best, best_of, cost_of}

-- the cost is below the bound, if there is one
abbrev pub IsUnder : ℤ → Option ℤ → Type 0
IsUnder v None = Unit {0}
IsUnder v (Some bound) = v <ℤ bound

-- the alternative i under this bound
abbrev pub bounded : ℕ → Option ℤ → Bounded
bounded i bound = record { alternative = i; bound = bound }

-- Solutions A, each with its cost. `has_below p x` says that the node at p has the solution x below it, under all bounds on the
-- way. It agrees with the tree:
pub record Solves {A : Type 0} (node : Tree Bounded Costed) (cost : A → ℤ) (has_below : List Bounded → A → Bool) : Type 0 where
  -- what is below a node is below its parent
  pub rises : (p : List Bounded) (b : Bounded) (x : A) → has_below (p ++ b ∷ []) x ≡ true → has_below p x ≡ true
  -- the cost of a solved leaf is that of a solution
  pub sound : (p : List Bounded) (l : Costed) (s : ℕ) (v : ℤ) → node p ≡ Some (report (End l) s) → cost_of l ≡ Some v → (x : A) × (has_below p x ≡ true) × (cost x ≡ v)
  -- where there is a solution at a leaf, this is solved, and costs no more
  pub ends : (p : List Bounded) (l : Costed) (s : ℕ) (x : A) → node p ≡ Some (report (End l) s) → has_below p x ≡ true → (w : ℤ) × (cost_of l ≡ Some w) × (w ≤ℤ cost x)
  -- a solution below a choice is below one of its alternatives, under each bound that its cost is below
  pub falls : (p : List Bounded) (n s : ℕ) (x : A) → node p ≡ Some (report (Alternatives n) s) → has_below p x ≡ true
      → (i : ℕ) × (1 ≤ i) × (i ≤ n) × ((bound : Option ℤ) → IsUnder (cost x) bound → has_below (p ++ bounded i bound ∷ []) x ≡ true)

-- c is the least cost of the solutions in the whole tree, or none where there are none
pub record IsLeast {A : Type 0} (cost : A → ℤ) (has_below : List Bounded → A → Bool) (c : Option ℤ) : Type 0 where
  pub reached : (v : ℤ) → c ≡ Some v → (x : A) × (has_below [] x ≡ true) × (cost x ≡ v)
  pub least : (x : A) → has_below [] x ≡ true → (w : ℤ) × (c ≡ Some w) × (w ≤ℤ cost x)

-- a finished history of best search has found the least cost
abbrev pub BestLaw : Type 0 → Type 0
BestLaw A =
    (within : Fuelled Bounded Costed) (budget : ℕ) (cost : A → ℤ) (has_below : List Bounded → A → Bool) → Solves (within budget) cost has_below → Costs (within budget) → (h : List BestEntry) → IsLegal within best budget h
    → IsNothingOpen best h → IsNothingOut best h → IsLeast cost has_below (best_of h)
