-- The tree of a search for a least cost: a node is told that the cost is below what was found when it was begun (branch and
-- bound: Schulte, LNCS 2302, on search).
use Rattle.std.specs.Prelude.{◌≡◌, ℕ, ℤ, ◌≤ℤ◌, int_lt, List, [], ◌++◌, Contains, Option, Some, None, ◌<◌, length, map}
use Rattle.std.specs.Option.{option_to_list}
use Rattle.oz_base.specs.declared.distribution.Split.{Split}
use Rattle.oz_domains.specs.Domains.{least}
use Rattle.oz_domains.specs.Positions.{domain, value}
use Rattle.oz_domains.specs.Passes.{keep}
use Rattle.fd_problems.specs.declared.problem.Problem.{Problem}
use Rattle.fd_problems.specs.declared.problem.Distribution.{Distribution}
use Rattle.fd_problems.specs.Problems.{Meets}
use Rattle.fd_stores.specs.Stores.{Store, Constraint, Fails, Rests, Solves}
use Rattle.fd_stores.specs.Choices.{choice, first_store, second_store}
use Rattle.fd_trees.specs.Trees.{Tree, Failed, Leaf, Choice, leaves, Follows}
use Rattle.fd_trees.specs.Laws.{IsSearch}
use Rattle.fd_trees.specs.Scripts.{IsProblem, constraints, start, tuple_at}

-- the store with the cost below the bound, where there is one
abbrev pub below : ℕ → Option ℤ → Store → Option Store
below cost None s = Some s
below cost (Some b) s = keep cost (λ v. int_lt v b) s

-- the tree below a store that is first told a bound, each node by a bound of its own; bs are all bounds
pub data IsBounded (cs : List Constraint) (d : Distribution) (cost : ℕ) : Option ℤ → Store → Tree → List ℤ → Type 0 where
  cut : {u : Option ℤ} {s : Store} → below cost u s ≡ None → IsBounded cs d cost u s Failed (option_to_list u)
  failed : {u : Option ℤ} {s e : Store} → below cost u s ≡ Some e → Fails cs e → IsBounded cs d cost u s Failed (option_to_list u)
  leaf : {u : Option ℤ} {s e m : Store} → below cost u s ≡ Some e → Rests cs e m → choice d m ≡ None → IsBounded cs d cost u s (Leaf m) (option_to_list u)
  split : {u v w : Option ℤ} {s e m a b : Store} {l r : Tree} {ls rs : List ℤ} (p : Split) → below cost u s ≡ Some e → Rests cs e m → choice d m ≡ Some p → first_store d p m ≡ Some a
      → second_store d p m ≡ Some b → IsBounded cs d cost v a l ls → IsBounded cs d cost w b r rs → IsBounded cs d cost u s (Choice l r) (option_to_list u ++ (ls ++ rs))

-- where no node is told a bound, there is such a tree
abbrev pub UnboundedLaw : Type 0
UnboundedLaw = (cs : List Constraint) (d : Distribution) (cost : ℕ) (s : Store) → IsSearch cs d s → cost < length s → (t : Tree) × IsBounded cs d cost None s t []

-- the cost at a leaf
abbrev pub cost_of : ℕ → Store → ℤ
cost_of cost m = least (domain m cost)

-- each bound is the cost of a leaf
abbrev pub AreCosts : ℕ → Tree → List ℤ → Type 0
AreCosts cost t bs = (b : ℤ) → Contains bs b → (m : Store) × Contains (leaves t) m × (cost_of cost m ≡ b)

-- then no solution is cheaper than all leaves: the least cost of a leaf is the least of all, and without a leaf there is none
abbrev pub BestLaw : Type 0
BestLaw = (cs : List Constraint) (d : Distribution) (cost : ℕ) (u : Option ℤ) (s : Store) (t : Tree) (bs : List ℤ) → IsSearch cs d s → cost < length s → Follows cs d s cost
    → IsBounded cs d cost u s t bs → AreCosts cost t bs → (v : List ℤ) → Solves cs s v → (m : Store) × Contains (leaves t) m × (cost_of cost m ≤ℤ value v cost)

-- and where all variables follow, each leaf is a solution
abbrev pub BoundedLaw : Type 0
BoundedLaw = (cs : List Constraint) (d : Distribution) (cost : ℕ) (u : Option ℤ) (s : Store) (t : Tree) (bs : List ℤ) → IsSearch cs d s → cost < length s → ((x : ℕ) → x < length s → Follows cs d s x)
    → IsBounded cs d cost u s t bs → (m : Store) → Contains (leaves t) m → Solves cs s (map least m)

-- of a problem: each leaf gives a tuple that meets it, at the leaf's cost, and none that meets it is cheaper than all leaves
pub record IsBest (p : Problem) (cost : ℕ) (t : Tree) : Type 0 where
  pub meets : (m : Store) → Contains (leaves t) m → Meets p (tuple_at p m) × (value (tuple_at p m) cost ≡ cost_of cost m)
  pub cheapest : (v : List ℤ) → Meets p v → (m : Store) × Contains (leaves t) m × (cost_of cost m ≤ℤ value v cost)

abbrev pub BestAnswerLaw : Type 0
BestAnswerLaw = (p : Problem) (cost : ℕ) (u : Option ℤ) (t : Tree) (bs : List ℤ) → IsProblem p → cost < p.count → IsBounded (constraints p) p.distribution cost u (start p) t bs
    → AreCosts cost t bs → IsBest p cost t
