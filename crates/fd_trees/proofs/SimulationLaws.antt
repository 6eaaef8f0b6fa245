-- Nodes that stand for stores make a tree: what is shown of each node by its kind is shown of the whole.
use Rattle.std.proofs.Common.{◌≡◌, ℕ, zero, suc, ◌<◌, List, Option, Some, None, MatchOption, refl, arith}
use Rattle.oz_base.specs.declared.distribution.Split.{Split}
use Rattle.fd_problems.specs.declared.problem.Distribution.{Distribution}
use Rattle.fd_stores.specs.Stores.{Store, Constraint, Fails, Rests, total, settled}
use Rattle.fd_stores.specs.Choices.{choice, first_store, second_store}
use Rattle.fd_stores.specs.Laws.{AreOver}
use Rattle.fd_stores.proofs.RunLaws.{parts_total}
use Rattle.fd_stores.proofs.SettleLaws.{settled_law}
use Rattle.fd_trees.specs.Trees.{Tree, Failed, Leaf, Choice, IsTree, failed, leaf, split}
use Rattle.fd_trees.specs.Laws.{IsSearch, TreeLaw}
use Rattle.fd_trees.proofs.TreeLaws.{rests_keep}
use Rattle.fd_trees.proofs.EndLaws.{Within, within_parts, parted}

-- the node x, which stands for the store s: it fails, or is a leaf, or has the children y and z, which stand for the two
-- stores of the split. Shown is what is shown of a node and its tree
pub data Case {X : Type 0} (cs : List Constraint) (d : Distribution) (Stands : X → Store → Type 0) (Shown : X → Tree → Type 0) (x : X) (s : Store) : Type 0 where
  fails : Fails cs s → Shown x Failed → Case cs d Stands Shown x s
  ends : (m : Store) → Rests cs s m → choice d m ≡ None → Shown x (Leaf m) → Case cs d Stands Shown x s
  divides : (m : Store) (p : Split) (y z : X) → Rests cs s m → choice d m ≡ Some p → ((a : Store) → first_store d p m ≡ Some a → Stands y a) → ((b : Store) → second_store d p m ≡ Some b → Stands z b)
      → ((l r : Tree) → Shown y l → Shown z r → Shown x (Choice l r)) → Case cs d Stands Shown x s

module _ {X : Type 0} (cs : List Constraint) (d : Distribution) (Stands : X → Store → Type 0) (Shown : X → Tree → Type 0) where
  abbrev pub Simulated : X → Store → Type 0
  Simulated x s = (t : Tree) × IsTree cs d s t × Shown x t

  abbrev Below : Store → Type 0
  Below s = (y : X) (a : Store) → Stands y a → AreOver cs a → Within d a → total a < total s → Simulated y a

  by_case : (x : X) (s : Store) → AreOver cs s → Within d s → Case cs d Stands Shown x s → Below s → Simulated x s
  by_case x s o w (fails f h) again = (Failed, failed f, h)
  by_case x s o w (ends m r e h) again = (Leaf m, leaf r e, h)
  by_case x s o w (divides m p y z r e f g h) again =
      let k = rests_keep cs s m o r in
      let v = within_parts d s m k.parts w in
      let q = parted cs d m p k.over v e in
      let first = q.parts.first in
      let second = q.parts.second in
      let less = (parts_total s m k.parts).0 in
      let la = first.2 in
      let lb = second.2 in
      let left = again y q.a (f q.a q.first) first.0 (within_parts d m q.a first.1 v) (omega arith) in
      let right = again z q.b (g q.b q.second) second.0 (within_parts d m q.b second.1 v) (omega arith) in
      (Choice left.0 right.0, split p r e q.first q.second left.1 right.1, h left.0 right.0 left.2 right.2)

  module _ (step : (x : X) (s : Store) → Stands x s → IsSearch cs d s → Case cs d Stands Shown x s) where
    simulated_for : (n : ℕ) (x : X) (s : Store) → Stands x s → AreOver cs s → Within d s → total s < n → Simulated x s
    simulated_for zero x s h o w l = absurd (omega (arith, l))
    simulated_for (suc n) x s h o w l = by_case x s o w (step x s h (record { over = o; within = w })) (λ y a i p v g. simulated_for n y a i p v (omega (arith, l, g)))

    pub simulated : (x : X) (s : Store) → Stands x s → IsSearch cs d s → Simulated x s
    simulated x s h i = simulated_for (suc (total s)) x s h i.over i.within (omega arith)

-- ---- stores stand for themselves

-- a store from a split, if there is one
abbrev IsMade : Option Store → Store → Type 0
IsMade o s = o ≡ Some s

module _ (cs : List Constraint) (d : Distribution) where
  -- a node: the option that made its store
  abbrev Nothing : Option Store → Tree → Type 0
  Nothing x t = Unit {0}

  at_rest : (x : Option Store) (s m : Store) → Rests cs s m → (c : Option Split) → choice d m ≡ c → Case cs d IsMade Nothing x s
  at_rest x s m r None e = ends m r e tt
  at_rest x s m r (Some p) e = divides m p (first_store d p m) (second_store d p m) r e (λ a f. f) (λ b f. f) (λ l k a b. tt)

  settles : (x : Option Store) (s : Store) (o : Option Store) → MatchOption o (Fails cs s) (Rests cs s) → Case cs d IsMade Nothing x s
  settles x s None f = fails f tt
  settles x s (Some m) r = at_rest x s m r (choice d m) refl

pub tree_law : TreeLaw
tree_law cs d s h =
    let r = simulated cs d IsMade (Nothing cs d) (λ x e k i. settles cs d x e (settled cs e) (settled_law cs e i.over)) (Some s) s refl h in
    (r.0, r.1)
