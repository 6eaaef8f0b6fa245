-- The laws of search trees: their leaves are the solutions, and propagation and distribution end (CTM 12.1, 12.3; Schulte, LNCS 2302,
-- chapter 2 and on search).
use Rattle.std.specs.Prelude.{◌≡◌, ◌≢◌, ◌↔◌, ℕ, ◌<◌, ℤ, true, List, length, map, Contains, All, AllPairs, Option, IsSomeAnd, IfSome, MatchOption}
use Rattle.oz_base.specs.declared.distribution.Rule.TheVariants.{Naive}
use Rattle.oz_domains.specs.Domains.{least}
use Rattle.oz_domains.specs.Positions.{AreParts, all_single}
use Rattle.fd_problems.specs.declared.problem.Distribution.{Distribution}
use Rattle.fd_problems.specs.Problems.{IsLeft}
use Rattle.fd_stores.specs.Stores.{Store, Constraint, domains_at, Solves, Fails, AtRest, Rests, total}
use Rattle.fd_stores.specs.Laws.{AreOver}
use Rattle.fd_trees.specs.Trees.{Tree, IsTree, leaves, IsSolved, tree, answers, IsAssignment, Follows}

-- ---- trees

-- what all laws of trees suppose: domains, and constraints and a distribution over their variables
pub record IsSearch (cs : List Constraint) (d : Distribution) (s : Store) : Type 0 where
  pub over : AreOver cs s
  pub within : All (λ x. x < length s) d.over

-- a leaf: nothing is due, and the distributed variables are determined
pub record IsEnd (cs : List Constraint) (d : Distribution) (s m : Store) : Type 0 where
  pub over : AreOver cs m
  pub parts : AreParts m s
  pub rest : AtRest cs m
  pub determined : all_single (domains_at m d.over) ≡ true

-- each solution is one of exactly one leaf, and no two leaves give the distributed variables the same values
pub record AreLeaves (cs : List Constraint) (d : Distribution) (s : Store) (t : Tree) : Type 0 where
  pub ends : All (IsEnd cs d s) (leaves t)
  pub found : (u : List ℤ) → Solves cs s u ↔ ((m : Store) × Contains (leaves t) m × Solves cs m u)
  pub once : AllPairs (λ u v. u ≢ v) (answers d t)
  pub ordered : d.rule ≡ Naive → AllPairs IsLeft (answers d t)

-- and this holds of each search tree, whatever the order of its runs
abbrev pub LeavesLaw : Type 0
LeavesLaw = (cs : List Constraint) (d : Distribution) (s : Store) (t : Tree) → IsSearch cs d s → IsTree cs d s t → AreLeaves cs d s t

-- a leaf at which no propagator is undecided is a solution
abbrev pub SolvedLaw : Type 0
SolvedLaw = (cs : List Constraint) (d : Distribution) (s : Store) (t : Tree) → IsSearch cs d s → IsTree cs d s t
    → All (λ m. IsSolved cs m → Solves cs m (map least m)) (leaves t)

-- where all variables follow from those that are distributed, each leaf is solved and one solution, and the answers are the
-- assignments
abbrev pub AnswersLaw : Type 0
AnswersLaw = (cs : List Constraint) (d : Distribution) (s : Store) (t : Tree) → IsSearch cs d s → ((x : ℕ) → x < length s → Follows cs d s x) → IsTree cs d s t
    → All (λ m. (all_single m ≡ true) × IsSolved cs m × Solves cs m (map least m)) (leaves t) × ((u : List ℤ) → Contains (answers d t) u ↔ IsAssignment cs d s u)

-- ---- the end of a tree

-- rest runs a store until one run fails or nothing is due
abbrev pub Settles : List Constraint → (Store → Option Store) → Type 0
Settles cs rest = (s : Store) → AreOver cs s → MatchOption (rest s) (Fails cs s) (Rests cs s)

-- what it makes is a tree; as many levels as there are values, and one, are enough, and more make the same tree
pub record Ends (cs : List Constraint) (d : Distribution) (rest : Store → Option Store) (s : Store) : Type 0 where
  pub is_tree : (n : ℕ) → IfSome (tree rest d n s) (IsTree cs d s)
  pub enough : (n : ℕ) → total s < n → IsSomeAnd (tree rest d n s) (IsTree cs d s)
  pub same : (n m : ℕ) → total s < n → total s < m → tree rest d n s ≡ tree rest d m s

-- and this holds of each way to run a store until nothing is due
abbrev pub EndsLaw : Type 0
EndsLaw = (cs : List Constraint) (d : Distribution) (rest : Store → Option Store) (s : Store) → IsSearch cs d s → Settles cs rest → Ends cs d rest s

-- and so there is one
abbrev pub TreeLaw : Type 0
TreeLaw = (cs : List Constraint) (d : Distribution) (s : Store) → IsSearch cs d s → (t : Tree) × IsTree cs d s t

-- ---- order

-- a list in lexicographic order is determined by its members
abbrev pub OrderLaw : Type 0
OrderLaw = (us vs : List (List ℤ)) → AllPairs IsLeft us → AllPairs IsLeft vs → ((u : List ℤ) → Contains us u ↔ Contains vs u) → us ≡ vs
