-- The stores along a path of a bounded tree.
use Rattle.std.proofs.Common.{◌≡◌, ℕ, ◌<◌, ℤ, true, ◌&&◌, List, [], ◌∷◌, length, Option, Some, None, option_and_then, refl, sym, ap, ◌∙◌, subst}
use Rattle.oz_base.specs.Lists.{holds_of}
use Rattle.oz_domains.specs.Positions.{value, IsIn, AreParts}
use Rattle.oz_search.specs.declared.best.Bounded.{Bounded}
use Rattle.fd_problems.specs.declared.problem.Distribution.{Distribution}
use Rattle.fd_stores.specs.Stores.{Store, Constraint, Solves}
use Rattle.fd_stores.specs.Laws.{AreOver}
use Rattle.fd_stores.proofs.RunLaws.{in_parts}
use Rattle.fd_trees.specs.Laws.{IsEnd}
use Rattle.fd_trees.proofs.EndLaws.{Within}
use Rattle.fd_bounds.specs.BoundedTrees.{BoundedTree, Failed, Leaf, IsBoundedTree}
use Rattle.fd_best.specs.Parts.{child, part, is_under, goes, lies_below}
use Rattle.fd_best.proofs.LieLaws.{same_tree}
use Rattle.fd_best.proofs.StepLaws.{and_first, and_second, steps, no_failed, ended}

-- the child on the way to a part
on_the_way : (q : List Bounded) (o : Option BoundedTree) (u : BoundedTree) → option_and_then (part q) o ≡ Some u → (c : BoundedTree) × (o ≡ Some c) × (part q c ≡ Some u)
on_the_way q None u e = absurd (cc)
on_the_way q (Some c) u e = (c, refl, e)

module _ (cs : List Constraint) (d : Distribution) (cost : ℕ) (root : Store) (w : Within d root) (l : cost < length root) where
  -- a part of the tree, with its bound and its store
  pub record Place (t : BoundedTree) : Type 0 where
    pub bound : Option ℤ
    pub store : Store
    pub over : AreOver cs store
    pub parts : AreParts store root
    pub shape : IsBoundedTree cs d cost bound store t

  -- a solution of its store below its bound
  pub record Stands (v : List ℤ) (t : BoundedTree) : Type 0 where
    pub place : Place t
    pub solves : Solves cs place.store v
    pub under : is_under (value v cost) place.bound ≡ true

  -- each part of the tree has one
  pub placed : (q : List Bounded) (t u : BoundedTree) → Place t → part q t ≡ Some u → Place u
  placed [] t u p e = subst Place (same_tree t u e) p
  placed (b ∷ q) t u p e =
      let n = on_the_way q (child b t) u e in
      let k = steps cs d cost root w l p.bound p.store b t n.0 p.over p.parts p.shape n.1 in
      placed q n.0 u (record { bound = b.bound; store = k.store; over = k.over; parts = k.parts; shape = k.shape }) n.2

  -- a solution stands at each part that it lies below
  pub stands : (q : List Bounded) (v : List ℤ) (t u : BoundedTree) → Stands v t → lies_below d cost q v t ≡ true → part q t ≡ Some u → Stands v u
  stands [] v t u h f e = subst (Stands v) (same_tree t u e) h
  stands (b ∷ q) v t u h f e =
      let p = h.place in
      let n = on_the_way q (child b t) u e in
      let k = steps cs d cost root w l p.bound p.store b t n.0 p.over p.parts p.shape n.1 in
      let go = goes d cost b v t in
      let rest = holds_of (lies_below d cost q v) (child b t) in
      let g = k.falls v h.solves h.under (and_first go rest f) in
      stands q v n.0 u
      (record { place = record { bound = b.bound; store = k.store; over = k.over; parts = k.parts; shape = k.shape }; solves = g.0; under = g.1 })
      (subst (λ o. holds_of (lies_below d cost q v) o ≡ true) n.1 (and_second go rest f)) n.2

  -- none stands where a node has failed
  pub stands_not : (v : List ℤ) → Stands v Failed → ⊥
  stands_not v h = (let p = h.place in no_failed cs d cost root w l p.bound p.store v Failed refl p.over p.parts p.shape h.solves h.under)

  -- at a leaf it is a solution
  pub stands_leaf : (v : List ℤ) (m : Store) → Stands v (Leaf m) → IsEnd cs d root m × Solves cs m v
  stands_leaf v m h =
      let p = h.place in
      let e = ended cs d cost root w l p.bound p.store m (Leaf m) refl p.over p.parts p.shape in
      let k = e.kept in
      (e.ends, k.keeps v h.solves h.under)

  pub leaf_end : (m : Store) → Place (Leaf m) → IsEnd cs d root m
  leaf_end m p = (let e = ended cs d cost root w l p.bound p.store m (Leaf m) refl p.over p.parts p.shape in e.ends)

  -- a tuple of a leaf
  pub record Back (u : Option ℤ) (s : Store) (v : List ℤ) (q : List Bounded) (t : BoundedTree) : Type 0 where
    pub inside : IsIn s v
    pub under : is_under (value v cost) u ≡ true
    pub lies : lies_below d cost q v t ≡ true

  back_leaf : (u : Option ℤ) (s m : Store) (v : List ℤ) → AreOver cs s → AreParts s root → IsBoundedTree cs d cost u s (Leaf m) → IsIn m v → Back u s v [] (Leaf m)
  back_leaf u s m v o p h i =
      let e = ended cs d cost root w l u s m (Leaf m) refl o p h in
      let k = e.kept in
      record { inside = in_parts s m v k.lower i; under = k.under v i; lies = refl }

  -- lies below the path to it
  pub back : (q : List Bounded) (u : Option ℤ) (s m : Store) (v : List ℤ) (t : BoundedTree) → AreOver cs s → AreParts s root → IsBoundedTree cs d cost u s t → part q t ≡ Some (Leaf m) → IsIn m v → Back u s v q t
  back [] u s m v t o p h e i =
      let same = same_tree t (Leaf m) e in
      subst (Back u s v []) (sym same) (back_leaf u s m v o p (subst (IsBoundedTree cs d cost u s) same h) i)
  back (b ∷ q) u s m v t o p h e i =
      let n = on_the_way q (child b t) (Leaf m) e in
      let k = steps cs d cost root w l u s b t n.0 o p h n.1 in
      let r = back q b.bound k.store m v n.0 k.over k.parts k.shape n.2 i in
      let g = k.rises v r.inside r.under in
      let rest = λ (z : Option BoundedTree). holds_of (lies_below d cost q v) z in
      record { inside = g.0; under = g.1; lies = ap (λ z. z && rest (child b t)) g.2 ∙ (ap rest n.1 ∙ r.lies) }
