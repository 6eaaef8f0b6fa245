-- The tree of a best search over stores, with all bounds under which its nodes may be begun (branch and bound: Schulte, LNCS 2302, on
-- search).
use Rattle.std.specs.Prelude.{◌≡◌, ◌<◌, ℕ, ℤ, List, length, Option, Some, None}
use Rattle.oz_base.specs.declared.distribution.Split.{Split}
use Rattle.fd_problems.specs.declared.problem.Distribution.{Distribution}
use Rattle.fd_stores.specs.Stores.{Store, Constraint, Fails, Rests}
use Rattle.fd_stores.specs.Choices.{choice, first_store, second_store}
use Rattle.fd_trees.specs.Laws.{IsSearch}
use Rattle.fd_bounds.specs.Bounds.{below}

-- a node has failed, or is a leaf with its store, or a choice of two by a split: each alternative has a tree for each bound
pub data BoundedTree : Type 0 where
  Failed : BoundedTree
  Leaf : Store → BoundedTree
  Choice : Split → (Option ℤ → BoundedTree) → (Option ℤ → BoundedTree) → BoundedTree

-- the tree below a store that is first told a bound: runs in any order until one fails or nothing is due, then the alternatives of the
-- distribution, each under each bound
pub data IsBoundedTree (cs : List Constraint) (d : Distribution) (cost : ℕ) : Option ℤ → Store → BoundedTree → Type 0 where
  cut : {u : Option ℤ} {s : Store} → below cost u s ≡ None → IsBoundedTree cs d cost u s Failed
  failed : {u : Option ℤ} {s e : Store} → below cost u s ≡ Some e → Fails cs e → IsBoundedTree cs d cost u s Failed
  leaf : {u : Option ℤ} {s e m : Store} → below cost u s ≡ Some e → Rests cs e m → choice d m ≡ None → IsBoundedTree cs d cost u s (Leaf m)
  split : {u : Option ℤ} {s e m a b : Store} {l r : Option ℤ → BoundedTree} (p : Split) → below cost u s ≡ Some e → Rests cs e m → choice d m ≡ Some p → first_store d p m ≡ Some a
      → second_store d p m ≡ Some b → ((v : Option ℤ) → IsBoundedTree cs d cost v a (l v)) → ((v : Option ℤ) → IsBoundedTree cs d cost v b (r v)) → IsBoundedTree cs d cost u s (Choice p l r)

-- there is such a tree below each store of a search
abbrev pub BoundedTreeLaw : Type 0
BoundedTreeLaw = (cs : List Constraint) (d : Distribution) (cost : ℕ) (u : Option ℤ) (s : Store) → IsSearch cs d s → cost < length s → (t : BoundedTree) × IsBoundedTree cs d cost u s t
