-- There is a bounded tree below each store of a search.
use Rattle.std.proofs.Common.{◌≡◌, ℕ, zero, suc, ◌<◌, ℤ, List, length, Option, Some, None, MatchOption, refl, arith}
use Rattle.oz_base.specs.declared.distribution.Split.{Split}
use Rattle.fd_problems.specs.declared.problem.Distribution.{Distribution}
use Rattle.fd_stores.specs.Stores.{Store, Constraint, Fails, Rests, total, settled}
use Rattle.fd_stores.specs.Choices.{choice}
use Rattle.fd_stores.specs.Laws.{AreOver}
use Rattle.fd_stores.proofs.RunLaws.{parts_total}
use Rattle.fd_stores.proofs.SettleLaws.{settled_law}
use Rattle.fd_trees.proofs.TreeLaws.{rests_keep}
use Rattle.fd_trees.proofs.EndLaws.{Within, within_parts, parted}
use Rattle.fd_bounds.specs.Bounds.{below}
use Rattle.fd_bounds.proofs.BoundLaws.{bounded_by}
use Rattle.fd_bounds.specs.BoundedTrees.{BoundedTree, Failed, Leaf, Choice, IsBoundedTree, cut, failed, leaf, split, BoundedTreeLaw}

module _ (cs : List Constraint) (d : Distribution) (cost : ℕ) where
  abbrev Made : Option ℤ → Store → Type 0
  Made u s = (t : BoundedTree) × IsBoundedTree cs d cost u s t

  abbrev Smaller : Store → Type 0
  Smaller s = (v : Option ℤ) (a : Store) → AreOver cs a → Within d a → cost < length a → total a < total s → Made v a

  divided : (u : Option ℤ) (s e m : Store) (o : AreOver cs s) → Within d s → cost < length s → below cost u s ≡ Some e → Rests cs e m → Smaller s → (c : Option Split) → choice d m ≡ c → Made u s
  divided u s e m o w l h r again None c = (Leaf m, leaf h r c)
  divided u s e m o w l h r again (Some p) c =
      let b = bounded_by cs d cost u s e o l h in
      let kept = rests_keep cs e m b.over r in
      let pe = b.parts in
      let pm = kept.parts in
      let we = within_parts d s e pe w in
      let wm = within_parts d e m pm we in
      let q = parted cs d m p kept.over wm c in
      let first = q.parts.first in
      let second = q.parts.second in
      let pa = first.1 in
      let pb = second.1 in
      let te = (parts_total s e pe).0 in
      let tm = (parts_total e m pm).0 in
      let ta = first.2 in
      let tb = second.2 in
      let le = pe.long in
      let lm = pm.long in
      let la = pa.long in
      let lb = pb.long in
      let left : (v : Option ℤ) → Made v q.a = λ v. again v q.a first.0 (within_parts d m q.a pa wm) (omega arith) (omega arith) in
      let right : (v : Option ℤ) → Made v q.b = λ v. again v q.b second.0 (within_parts d m q.b pb wm) (omega arith) (omega arith) in
      (Choice p (λ v. (left v).0) (λ v. (right v).0), split p h r c q.first q.second (λ v. (left v).1) (λ v. (right v).1))

  run_on : (u : Option ℤ) (s e : Store) → AreOver cs s → Within d s → cost < length s → below cost u s ≡ Some e → Smaller s → (o : Option Store) → MatchOption o (Fails cs e) (Rests cs e) → Made u s
  run_on u s e o w l h again None f = (Failed, failed h f)
  run_on u s e o w l h again (Some m) r = divided u s e m o w l h r again (choice d m) refl

  told : (u : Option ℤ) (s : Store) → AreOver cs s → Within d s → cost < length s → Smaller s → (b : Option Store) → below cost u s ≡ b → Made u s
  told u s o w l again None h = (Failed, cut h)
  told u s o w l again (Some e) h = (let k = bounded_by cs d cost u s e o l h in run_on u s e o w l h again (settled cs e) (settled_law cs e k.over))

  made_for : (n : ℕ) (u : Option ℤ) (s : Store) → AreOver cs s → Within d s → cost < length s → total s < n → Made u s
  made_for zero u s o w l k = absurd (omega (arith, k))
  made_for (suc n) u s o w l k = told u s o w l (λ v a i p q g. made_for n v a i p q (omega (arith, k, g))) (below cost u s) refl

pub bounded_tree_law : BoundedTreeLaw
bounded_tree_law cs d cost u s h l = made_for cs d cost (suc (total s)) u s h.over h.within l (omega arith)
