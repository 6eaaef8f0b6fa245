-- The parts of a bounded tree by paths of alternatives and bounds, and which assignments lie below them (Schulte, LNCS 2302, on search).
use Rattle.std.specs.Prelude.{◌≡◌, ◌==◌, ℕ, ℤ, int_lt, Bool, true, false, ◌&&◌, not, if◌then◌else◌, List, [], ◌∷◌, Option, Some, None, option_and_then}
use Rattle.oz_base.specs.Lists.{holds_of}
use Rattle.oz_base.specs.declared.distribution.Split.{Split}
use Rattle.oz_domains.specs.Positions.{value}
use Rattle.oz_domains.specs.Splits.{passes}
use Rattle.oz_search.specs.declared.best.Bounded.{Bounded}
use Rattle.oz_search.specs.declared.best.Costed.{Costed}
use Rattle.oz_search.specs.declared.leaf.Outcome.TheVariants as outcome
use Rattle.oz_search.specs.declared.tree.Kind.{Kind}
use Rattle.oz_search.specs.declared.tree.Kind.TheVariants.{Alternatives, End}
use Rattle.oz_search.specs.declared.tree.Report.{Report}
use Rattle.oz_search.specs.Trees.{Tree}
use Rattle.oz_search.specs.Plain.{is_failed}
use Rattle.fd_problems.specs.declared.problem.Problem.{Problem}
use Rattle.fd_problems.specs.declared.problem.Distribution.{Distribution}
use Rattle.fd_problems.specs.Problems.{Meets}
use Rattle.fd_stores.specs.Stores.{Store}
use Rattle.fd_stores.specs.Choices.{split_variable}
use Rattle.fd_trees.specs.Scripts.{tuple_at}
use Rattle.fd_bounds.specs.BoundedTrees.{BoundedTree, Failed, Leaf, Choice}

-- ---- paths

-- the tree of the alternative that a branch takes, under its bound
abbrev pub child : Bounded → BoundedTree → Option BoundedTree
child b Failed = None
child b (Leaf m) = None
child b (Choice s l r) = if b.alternative == 1 then Some (l b.bound) else (if b.alternative == 2 then Some (r b.bound) else None)

-- the part of the tree at a path
abbrev pub part : List Bounded → BoundedTree → Option BoundedTree
part [] t = Some t
part (b ∷ p) t = option_and_then (part p) (child b t)

-- ---- assignments

abbrev pub Assignment : Problem → Type 0
Assignment p = (t : List ℤ) × Meets p t

-- an assignment's value of the variable that is the cost
abbrev pub cost_at : (p : Problem) → ℕ → Assignment p → ℤ
cost_at p cost x = value x.0 cost

abbrev pub is_under : ℤ → Option ℤ → Bool
is_under v None = true
is_under v (Some bound) = int_lt v bound

-- the value of the variable that is split lies in the first part, or in the second
abbrev pub takes : Distribution → Split → ℕ → List ℤ → Bool
takes d s i t = if i == 1 then passes s.test (value t (split_variable d s)) else not (passes s.test (value t (split_variable d s)))

-- an assignment lies in the alternative that a branch takes, and its cost is below the bound
abbrev pub goes : Distribution → ℕ → Bounded → List ℤ → BoundedTree → Bool
goes d cost b t Failed = false
goes d cost b t (Leaf m) = false
goes d cost b t (Choice s l r) = takes d s b.alternative t && is_under (value t cost) b.bound

-- so it does at each branch of a path
abbrev pub lies_below : Distribution → ℕ → List Bounded → List ℤ → BoundedTree → Bool
lies_below d cost [] t u = true
lies_below d cost (b ∷ p) t u = goes d cost b t u && holds_of (lies_below d cost p t) (child b u)

-- ---- nodes

-- what is reported of a solved leaf: the text that is shown of its values, and the cost
abbrev pub solved_leaf : (List ℤ → List ℕ) → Problem → ℕ → Store → Costed
solved_leaf text p cost m = record { outcome = outcome.Solved (text (tuple_at p m)); cost = Some (value (tuple_at p m) cost) }

-- a node of this kind shows this part of the tree
abbrev pub IsKind : (Store → Costed) → BoundedTree → Kind Costed → Type 0
IsKind shown Failed (End l) = is_failed l.outcome ≡ true
IsKind shown Failed (Alternatives n) = ⊥
IsKind shown (Leaf m) (End l) = l ≡ shown m
IsKind shown (Leaf m) (Alternatives n) = ⊥
IsKind shown (Choice s l r) (End leaf) = ⊥
IsKind shown (Choice s l r) (Alternatives n) = n ≡ 2

-- each node that is known shows the part of the tree at its path
abbrev pub ShowsTree : (Store → Costed) → Tree Bounded Costed → BoundedTree → Type 0
ShowsTree shown node t = (p : List Bounded) (r : Report Costed) → node p ≡ Some r → (u : BoundedTree) × (part p t ≡ Some u) × IsKind shown u r.kind
