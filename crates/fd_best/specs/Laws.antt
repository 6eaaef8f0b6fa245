-- Best search over finite domains finds an optimum: the nodes of a search that show the bounded tree of a problem have its assignments
-- below them (branch and bound: Schulte, LNCS 2302, on search; CTM 12.1).
use Rattle.std.specs.Prelude.{◌≡◌, ◌<◌, ℕ, ℤ, Bool, List, Contains, Some, None}
use Rattle.oz_domains.specs.Positions.{value}
use Rattle.oz_search.specs.declared.best.Bounded.{Bounded}
use Rattle.oz_search.specs.declared.best.Costed.{Costed}
use Rattle.oz_search.specs.declared.leaf.Outcome.TheVariants as outcome
use Rattle.oz_search.specs.declared.history.Entry.TheVariants as entries
use Rattle.oz_search.specs.Trees.{Tree}
use Rattle.oz_search.specs.Nodes.{Fuelled, IsFuelled}
use Rattle.oz_search.specs.Histories.{IsLegal, IsNothingOpen, IsNothingOut}
use Rattle.oz_search.specs.Best.{BestEntry, best, best_of, cost_of}
use Rattle.search_law.specs.BestLaw.{Solves}
use Rattle.fd_problems.specs.declared.problem.Problem.{Problem}
use Rattle.fd_problems.specs.Problems.{Meets}
use Rattle.fd_problems.specs.Optima.{IsOptimum}
use Rattle.fd_trees.specs.Scripts.{IsProblem, constraints, start}
use Rattle.fd_bounds.specs.BoundedTrees.{BoundedTree, IsBoundedTree}
use Rattle.fd_best.specs.Parts.{Assignment, cost_at, lies_below, solved_leaf, ShowsTree}

-- the tree of a problem: at the root there is no bound
abbrev pub IsTreeOf : Problem → ℕ → BoundedTree → Type 0
IsTreeOf p cost t = IsBoundedTree (constraints p) p.distribution cost None (start p) t

-- whether an assignment lies below a path
abbrev pub has_below : (p : Problem) → ℕ → BoundedTree → List Bounded → Assignment p → Bool
has_below p cost t q x = lies_below p.distribution cost q x.0 t

-- nodes that show the tree of a problem agree with its assignments, which is what best search rests on
abbrev pub SolvesLaw : Type 0
SolvesLaw = (p : Problem) (cost : ℕ) (text : List ℤ → List ℕ) (node : Tree Bounded Costed) (t : BoundedTree) → IsProblem p → cost < p.count → IsTreeOf p cost t
    → ShowsTree (solved_leaf text p cost) node t → Solves {A = Assignment p} node (cost_at p cost) (has_below p cost t)

-- What a finished history has found of a problem.
pub record Finds (p : Problem) (cost : ℕ) (text : List ℤ → List ℕ) (h : List BestEntry) : Type 0 where
  -- where no leaf is solved, no assignment meets the problem
  pub none : best_of h ≡ None → (t : List ℤ) → Meets p t → ⊥
  -- else there is a leaf of the least cost
  pub some : (c : ℤ) → best_of h ≡ Some c → (w : ℕ) × (q : List Bounded) × (l : Costed) × (s : ℕ) × Contains h (entries.Leaf w q l s) × (cost_of l ≡ Some c)
  -- and each such leaf shows an assignment that none betters
  pub shown : (w : ℕ) (q : List Bounded) (l : Costed) (s : ℕ) (c : ℤ) → Contains h (entries.Leaf w q l s) → cost_of l ≡ Some c → best_of h ≡ Some c
      → (t : List ℤ) × IsOptimum p cost t × (value t cost ≡ c) × (l.outcome ≡ outcome.Solved (text t))

abbrev pub OptimumLaw : Type 0
OptimumLaw = (p : Problem) (cost : ℕ) (text : List ℤ → List ℕ) (within : Fuelled Bounded Costed) (budget : ℕ) (t : BoundedTree) (h : List BestEntry) → IsProblem p → cost < p.count → IsTreeOf p cost t
    → IsFuelled best within → ShowsTree (solved_leaf text p cost) (within budget) t → IsLegal within best budget h → IsNothingOpen best h → IsNothingOut best h → Finds p cost text h
