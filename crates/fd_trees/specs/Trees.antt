-- The tree of a search over stores, its leaves, and what is found there (Schulte, LNCS 2302, chapter 4 and on search; CTM chapter 12).
use Rattle.std.specs.Prelude.{◌≡◌, ℕ, zero, suc, ℤ, Bool, true, List, [], ◌∷◌, ◌++◌, map, Contains, Option, Some, None, option_and_then}
use Rattle.oz_base.specs.declared.distribution.Split.{Split}
use Rattle.oz_base.specs.declared.relation.Relation.TheVariants.{Times}
use Rattle.oz_domains.specs.Domains.{IntSet, least, is_single}
use Rattle.oz_domains.specs.Positions.{domain, all_single}
use Rattle.fd_problems.specs.declared.problem.Distribution.{Distribution}
use Rattle.fd_problems.specs.Problems.{values_at}
use Rattle.fd_stores.specs.Stores.{Store, Constraint, Posted, Told, Fails, Rests, Solves, domains_at}
use Rattle.fd_stores.specs.Choices.{choice, first_store, second_store}

-- ---- trees

-- a node has failed, or is a leaf with its store, or a choice of two
pub data Tree : Type 0 where
  Failed : Tree
  Leaf : Store → Tree
  Choice : Tree → Tree → Tree

-- the unfailed leaves, from left to right
abbrev pub leaves : Tree → List Store
leaves Failed = []
leaves (Leaf s) = s ∷ []
leaves (Choice l r) = leaves l ++ leaves r

-- the tree below a store: runs in any order until one fails or nothing is due, then the alternatives of the distribution
pub data IsTree (cs : List Constraint) (d : Distribution) : Store → Tree → Type 0 where
  failed : {s : Store} → Fails cs s → IsTree cs d s Failed
  leaf : {s m : Store} → Rests cs s m → choice d m ≡ None → IsTree cs d s (Leaf m)
  split : {s m a b : Store} {l r : Tree} (p : Split) → Rests cs s m → choice d m ≡ Some p → first_store d p m ≡ Some a → second_store d p m ≡ Some b
      → IsTree cs d a l → IsTree cs d b r → IsTree cs d s (Choice l r)

-- ---- the tree by a way of running, at most n levels deep

-- a choice of two trees
abbrev pub joined : Option Tree → Option Tree → Option Tree
joined None r = None
joined (Some l) None = None
joined (Some l) (Some r) = Some (Choice l r)

-- the tree of a store where nothing is due: a leaf, or a choice of the trees below its two alternatives
abbrev pub divided : (Store → Option Tree) → Distribution → Store → Option Split → Option Tree
divided below d m None = Some (Leaf m)
divided below d m (Some p) = joined (option_and_then below (first_store d p m)) (option_and_then below (second_store d p m))

-- the tree of what a store was run to, if none failed
abbrev pub grown : (Store → Option Tree) → Distribution → Option Store → Option Tree
grown below d None = Some Failed
grown below d (Some m) = divided below d m (choice d m)

-- below what `rest` leaves of a store; None where n levels are too few
unfoldable pub tree : (Store → Option Store) → Distribution → ℕ → Store → Option Tree
tree rest d zero s = None
tree rest d (suc n) s = grown (tree rest d n) d (rest s)

-- ---- what is found

-- the variables of a propagator are determined
abbrev pub is_decided : Store → Constraint → Bool
is_decided m (Posted r xs) = all_single (domains_at m xs)
is_decided m (Told x v) = true

-- a leaf is solved where no propagator is undecided, and else it is stuck
abbrev pub IsSolved : List Constraint → Store → Type 0
IsSolved cs m = (c : Constraint) → Contains cs c → is_decided m c ≡ true

-- the values of the distributed variables at a leaf
abbrev pub answer : Distribution → Store → List ℤ
answer d m = map least (domains_at m d.over)

-- at all leaves, from left to right
abbrev pub answers : Distribution → Tree → List (List ℤ)
answers d t = map (answer d) (leaves t)

-- values of the distributed variables that belong to a solution
abbrev pub IsAssignment : List Constraint → Distribution → Store → List ℤ → Type 0
IsAssignment cs d s u = (t : List ℤ) × Solves cs s t × (values_at t d.over ≡ u)

-- a variable that is determined once the distributed ones are: it is distributed, or determined from the start or by what is
-- told of it, or the product of such variables
pub data Follows (cs : List Constraint) (d : Distribution) (s : Store) : ℕ → Type 0 where
  distributed : {x : ℕ} → Contains d.over x → Follows cs d s x
  determined : {x : ℕ} → is_single (domain s x) ≡ true → Follows cs d s x
  constant : {x : ℕ} (v : IntSet) → Contains cs (Told x v) → is_single v ≡ true → Follows cs d s x
  product : {x y z : ℕ} → Contains cs (Posted Times (x ∷ y ∷ z ∷ [])) → Follows cs d s x → Follows cs d s y → Follows cs d s z
