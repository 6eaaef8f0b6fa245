-- Nodes that stand for stores with bounds make a bounded tree: what is shown of each node is shown of the whole.
use Rattle.std.proofs.Common.{◌≡◌, ℕ, zero, suc, ◌<◌, ℤ, List, [], ◌++◌, length, Option, Some, None, MatchOption, option_to_list, refl, sym, subst, arith}
use Rattle.oz_base.specs.declared.distribution.Split.{Split}
use Rattle.fd_problems.specs.declared.problem.Distribution.{Distribution}
use Rattle.fd_stores.specs.Stores.{Store, Constraint, Fails, Rests, total, settled}
use Rattle.fd_stores.specs.Choices.{choice, first_store, second_store}
use Rattle.fd_stores.specs.Laws.{AreOver}
use Rattle.fd_stores.proofs.RunLaws.{parts_total}
use Rattle.fd_stores.proofs.SettleLaws.{settled_law}
use Rattle.fd_trees.specs.Trees.{Tree, Failed, Leaf, Choice}
use Rattle.fd_trees.specs.Laws.{IsSearch}
use Rattle.fd_trees.proofs.TreeLaws.{rests_keep}
use Rattle.fd_trees.proofs.EndLaws.{Within, within_parts, parted}
use Rattle.fd_bounds.specs.Bounds.{below, IsBounded, cut, failed, leaf, split, UnboundedLaw}
use Rattle.fd_bounds.proofs.BoundLaws.{bounded_by}

-- the node x, which stands for the store s and is told the bound u: it is cut, or fails, or is a leaf, or has children, which
-- stand for the two stores, each with a bound of its own. Shown is what is shown of a node, its tree and all bounds there
pub data Case {X : Type 0} (cs : List Constraint) (d : Distribution) (cost : ℕ) (Stands : X → Option ℤ → Store → Type 0) (Shown : X → Tree → List ℤ → Type 0) (x : X) (u : Option ℤ) (s : Store) : Type 0 where
  cuts : below cost u s ≡ None → Shown x Failed (option_to_list u) → Case cs d cost Stands Shown x u s
  fails : (e : Store) → below cost u s ≡ Some e → Fails cs e → Shown x Failed (option_to_list u) → Case cs d cost Stands Shown x u s
  ends : (e m : Store) → below cost u s ≡ Some e → Rests cs e m → choice d m ≡ None → Shown x (Leaf m) (option_to_list u) → Case cs d cost Stands Shown x u s
  divides : (e m : Store) (p : Split) (y z : X) (v w : Option ℤ) → below cost u s ≡ Some e → Rests cs e m → choice d m ≡ Some p → ((a : Store) → first_store d p m ≡ Some a → Stands y v a)
      → ((b : Store) → second_store d p m ≡ Some b → Stands z w b) → ((l r : Tree) (ls rs : List ℤ) → Shown y l ls → Shown z r rs → Shown x (Choice l r) (option_to_list u ++ (ls ++ rs)))
      → Case cs d cost Stands Shown x u s

module _ {X : Type 0} (cs : List Constraint) (d : Distribution) (cost : ℕ) (Stands : X → Option ℤ → Store → Type 0) (Shown : X → Tree → List ℤ → Type 0) where
  abbrev pub Simulated : X → Option ℤ → Store → Type 0
  Simulated x u s = (t : Tree) × (bs : List ℤ) × IsBounded cs d cost u s t bs × Shown x t bs

  abbrev Smaller : Store → Type 0
  Smaller s = (y : X) (v : Option ℤ) (a : Store) → Stands y v a → AreOver cs a → Within d a → cost < length a → total a < total s → Simulated y v a

  by_case : (x : X) (u : Option ℤ) (s : Store) → AreOver cs s → Within d s → cost < length s → Case cs d cost Stands Shown x u s → Smaller s → Simulated x u s
  by_case x u s o w l (cuts h f) again = (Failed, option_to_list u, cut h, f)
  by_case x u s o w l (fails e h f g) again = (Failed, option_to_list u, failed h f, g)
  by_case x u s o w l (ends e m h r c g) again = (Leaf m, option_to_list u, leaf h r c, g)
  by_case x u s o w l (divides e m p y z v vb h r c f g k) again =
      let b = bounded_by cs d cost u s e o l h in
      let kept = rests_keep cs e m b.over r in
      let pe = b.parts in
      let pm = kept.parts in
      let we = within_parts d s e pe w in
      let wm = within_parts d e m pm we in
      let q = parted cs d m p kept.over wm c in
      let first = q.parts.first in
      let second = q.parts.second in
      let pa = first.1 in
      let pb = second.1 in
      let te = (parts_total s e pe).0 in
      let tm = (parts_total e m pm).0 in
      let ta = first.2 in
      let tb = second.2 in
      let le = pe.long in
      let lm = pm.long in
      let la = pa.long in
      let lb = pb.long in
      let left = again y v q.a (f q.a q.first) first.0 (within_parts d m q.a pa wm) (omega arith) (omega arith) in
      let right = again z vb q.b (g q.b q.second) second.0 (within_parts d m q.b pb wm) (omega arith) (omega arith) in
      (Choice left.0 right.0, option_to_list u ++ (left.1 ++ right.1), split {l = left.0} {r = right.0} {ls = left.1} {rs = right.1} p h r c q.first q.second left.2 right.2, k left.0 right.0 left.1 right.1 left.3 right.3)

  module _ (step : (x : X) (u : Option ℤ) (s : Store) → Stands x u s → IsSearch cs d s → cost < length s → Case cs d cost Stands Shown x u s) where
    simulated_for : (n : ℕ) (x : X) (u : Option ℤ) (s : Store) → Stands x u s → AreOver cs s → Within d s → cost < length s → total s < n → Simulated x u s
    simulated_for zero x u s h o w l k = absurd (omega (arith, k))
    simulated_for (suc n) x u s h o w l k = by_case x u s o w l (step x u s h (record { over = o; within = w }) l) (λ y v a i p q c g. simulated_for n y v a i p q c (omega (arith, k, g)))

    pub simulated : (x : X) (u : Option ℤ) (s : Store) → Stands x u s → IsSearch cs d s → cost < length s → Simulated x u s
    simulated x u s h i l = simulated_for (suc (total s)) x u s h i.over i.within l (omega arith)

-- ---- stores stand for themselves, with no bound

abbrev IsMade : Option Store → Option ℤ → Store → Type 0
IsMade o u s = (o ≡ Some s) × (u ≡ None)

abbrev NoBounds : Option Store → Tree → List ℤ → Type 0
NoBounds x t bs = bs ≡ []

module _ (cs : List Constraint) (d : Distribution) (cost : ℕ) where
  at_rest : (x : Option Store) (s m : Store) → Rests cs s m → (c : Option Split) → choice d m ≡ c → Case cs d cost IsMade NoBounds x None s
  at_rest x s m r None e = ends s m refl r e refl
  at_rest x s m r (Some p) e = divides s m p (first_store d p m) (second_store d p m) None None refl r e (λ a f. (f, refl)) (λ b f. (f, refl)) (λ l k ls rs a b. λ i. a i ++ b i)

  settles : (x : Option Store) (s : Store) (o : Option Store) → MatchOption o (Fails cs s) (Rests cs s) → Case cs d cost IsMade NoBounds x None s
  settles x s None f = fails s refl f refl
  settles x s (Some m) r = at_rest x s m r (choice d m) refl

  step : (x : Option Store) (u : Option ℤ) (s : Store) → IsMade x u s → IsSearch cs d s → cost < length s → Case cs d cost IsMade NoBounds x u s
  step x u s e i l = subst (λ z. Case cs d cost IsMade NoBounds x z s) (sym e.1) (settles x s (settled cs s) (settled_law cs s i.over))

pub unbounded_law : UnboundedLaw
unbounded_law cs d cost s h l =
    let r = simulated cs d cost IsMade NoBounds (step cs d cost) (Some s) None s (refl, refl) h l in
    (r.0, subst (IsBounded cs d cost None s r.0) r.3 r.2)
