-- Trees end.
use Rattle.std.proofs.Common.{◌≡◌, ℕ, zero, suc, ◌<◌, List, length, All, Option, Some, None, IfSome, IsSomeAnd, MatchOption, option_and_then, refl, sym, ◌∙◌, subst, arith}
use Rattle.oz_base.specs.declared.distribution.Split.{Split}
use Rattle.oz_domains.specs.Positions.{AreParts}
use Rattle.fd_problems.specs.declared.problem.Distribution.{Distribution}
use Rattle.fd_stores.specs.Stores.{Store, Constraint, Fails, Rests, total}
use Rattle.fd_stores.specs.Choices.{choice, first_store, second_store}
use Rattle.fd_stores.specs.Laws.{AreOver, AreAlternatives}
use Rattle.fd_stores.proofs.RunLaws.{parts_total}
use Rattle.fd_stores.proofs.SplitLaws.{split_law}
use Rattle.fd_trees.specs.Trees.{Tree, Choice, IsTree, failed, leaf, split, joined, divided, grown, tree}
use Rattle.fd_trees.specs.Laws.{Settles, EndsLaw}
use Rattle.fd_trees.proofs.TreeLaws.{Kept, rests_keep}

-- ---- the two stores of a split

pub record Parted (cs : List Constraint) (d : Distribution) (m : Store) (p : Split) : Type 0 where
  pub a : Store
  pub b : Store
  pub first : first_store d p m ≡ Some a
  pub second : second_store d p m ≡ Some b
  pub parts : AreAlternatives cs m a b

parted_of : (cs : List Constraint) (d : Distribution) (m : Store) (p : Split) (x y : Option Store) → first_store d p m ≡ x → second_store d p m ≡ y → IsSomeAnd x (λ a. IsSomeAnd y (AreAlternatives cs m a)) → Parted cs d m p
parted_of cs d m p None y e f h = absurd h
parted_of cs d m p (Some a) None e f h = absurd h
parted_of cs d m p (Some a) (Some b) e f h = record { a = a; b = b; first = e; second = f; parts = h }

abbrev pub Within : Distribution → Store → Type 0
Within d s = All (λ x. x < length s) d.over

pub within_parts : (d : Distribution) (s m : Store) → AreParts m s → Within d s → Within d m
within_parts d s m p w = subst (λ n. All (λ x. x < n) d.over) (sym p.long) w

module _ (cs : List Constraint) (d : Distribution) (m : Store) (p : Split) (o : AreOver cs m) (w : Within d m) (e : choice d m ≡ Some p) where
  pub parted : Parted cs d m p
  parted = parted_of cs d m p (first_store d p m) (second_store d p m) refl refl (split_law cs d m p o w e)

  -- the trees of the two stores, joined
  divided_is : (below : Store → Option Tree) → divided below d m (Some p) ≡ joined (below (parted.a)) (below (parted.b))
  divided_is below = λ i. joined (option_and_then below (parted.first i)) (option_and_then below (parted.second i))

some_joined : (x y : Option Tree) (P Q R : Tree → Type 0) → IsSomeAnd x P → IsSomeAnd y Q → ((l r : Tree) → P l → Q r → R (Choice l r)) → IsSomeAnd (joined x y) R
some_joined None y P Q R h k f = h
some_joined (Some l) None P Q R h k f = k
some_joined (Some l) (Some r) P Q R h k f = f l r h k

if_joined : (x y : Option Tree) (P Q R : Tree → Type 0) → IfSome x P → IfSome y Q → ((l r : Tree) → P l → Q r → R (Choice l r)) → IfSome (joined x y) R
if_joined None y P Q R h k f = tt
if_joined (Some l) None P Q R h k f = tt
if_joined (Some l) (Some r) P Q R h k f = f l r h k

-- ---- one level

-- a fact of all stores with fewer values than s
abbrev Each : List Constraint → Distribution → Store → (Store → Type 0) → Type 0
Each cs d s P = (a : Store) → AreOver cs a → Within d a → total a < total s → P a

module _ (cs : List Constraint) (d : Distribution) (s m : Store) (o : AreOver cs s) (w : Within d s) (rests : Rests cs s m) where
  kept : Kept cs s m
  kept = rests_keep cs s m o rests

  over : AreOver cs m
  over = (let k = kept in k.over)

  within : Within d m
  within = (let k = kept in within_parts d s m k.parts w)

  less : total m < suc (total s)
  less = (let k = kept in let l = (parts_total s m k.parts).0 in omega arith)

  -- a fact of all smaller stores, at the two stores of a split
  both : (P : Store → Type 0) → Each cs d s P → (p : Split) (e : choice d m ≡ Some p) → P ((parted cs d m p over within e).a) × P ((parted cs d m p over within e).b)
  both P h p e =
      let q = parted cs d m p over within e in
      let f = q.parts.first in
      let g = q.parts.second in
      let l = less in
      let lf = f.2 in
      let lg = g.2 in
      (h q.a f.0 (within_parts d m q.a f.1 within) (omega arith), h q.b g.0 (within_parts d m q.b g.1 within) (omega arith))

  joins : (p : Split) (e : choice d m ≡ Some p) (l r : Tree) → IsTree cs d ((parted cs d m p over within e).a) l → IsTree cs d ((parted cs d m p over within e).b) r → IsTree cs d s (Choice l r)
  joins p e l r hl hr = (let q = parted cs d m p over within e in split p rests e q.first q.second hl hr)

  divided_some : (below : Store → Option Tree) → Each cs d s (λ a. IsSomeAnd (below a) (IsTree cs d a)) → (c : Option Split) → choice d m ≡ c → IsSomeAnd (divided below d m c) (IsTree cs d s)
  divided_some below h None e = leaf rests e
  divided_some below h (Some p) e =
      let q = parted cs d m p over within e in
      let b = both (λ a. IsSomeAnd (below a) (IsTree cs d a)) h p e in
      subst (λ z. IsSomeAnd z (IsTree cs d s)) (sym (divided_is cs d m p over within e below)) (some_joined (below q.a) (below q.b) (IsTree cs d q.a) (IsTree cs d q.b) (IsTree cs d s) b.0 b.1 (joins p e))

  divided_if : (below : Store → Option Tree) → Each cs d s (λ a. IfSome (below a) (IsTree cs d a)) → (c : Option Split) → choice d m ≡ c → IfSome (divided below d m c) (IsTree cs d s)
  divided_if below h None e = leaf rests e
  divided_if below h (Some p) e =
      let q = parted cs d m p over within e in
      let b = both (λ a. IfSome (below a) (IsTree cs d a)) h p e in
      subst (λ z. IfSome z (IsTree cs d s)) (sym (divided_is cs d m p over within e below)) (if_joined (below q.a) (below q.b) (IsTree cs d q.a) (IsTree cs d q.b) (IsTree cs d s) b.0 b.1 (joins p e))

  divided_same : (below other : Store → Option Tree) → Each cs d s (λ a. below a ≡ other a) → (c : Option Split) → choice d m ≡ c → divided below d m c ≡ divided other d m c
  divided_same below other h None e = refl
  divided_same below other h (Some p) e =
      let b = both (λ a. below a ≡ other a) h p e in
      divided_is cs d m p over within e below ∙ (λ i. joined (b.0 i) (b.1 i)) ∙ sym (divided_is cs d m p over within e other)

module _ (cs : List Constraint) (d : Distribution) (s : Store) (o : AreOver cs s) (w : Within d s) where
  grown_some : (below : Store → Option Tree) → Each cs d s (λ a. IsSomeAnd (below a) (IsTree cs d a)) → (r : Option Store) → MatchOption r (Fails cs s) (Rests cs s) → IsSomeAnd (grown below d r) (IsTree cs d s)
  grown_some below h None f = failed f
  grown_some below h (Some m) f = divided_some cs d s m o w f below h (choice d m) refl

  grown_if : (below : Store → Option Tree) → Each cs d s (λ a. IfSome (below a) (IsTree cs d a)) → (r : Option Store) → MatchOption r (Fails cs s) (Rests cs s) → IfSome (grown below d r) (IsTree cs d s)
  grown_if below h None f = failed f
  grown_if below h (Some m) f = divided_if cs d s m o w f below h (choice d m) refl

  grown_same : (below other : Store → Option Tree) → Each cs d s (λ a. below a ≡ other a) → (r : Option Store) → MatchOption r (Fails cs s) (Rests cs s) → grown below d r ≡ grown other d r
  grown_same below other h None f = refl
  grown_same below other h (Some m) f = divided_same cs d s m o w f below other h (choice d m) refl

-- ---- all levels

module _ (cs : List Constraint) (d : Distribution) (rest : Store → Option Store) (k : Settles cs rest) where
  tree_some : (n : ℕ) (s : Store) → AreOver cs s → Within d s → total s < n → IsSomeAnd (tree rest d n s) (IsTree cs d s)
  unfolding tree
  tree_some zero s o w l = absurd (omega (arith, l))
  tree_some (suc n) s o w l = grown_some cs d s o w (tree rest d n) (λ a p v g. tree_some n a p v (omega (arith, l, g))) (rest s) (k s o)

  tree_if : (n : ℕ) (s : Store) → AreOver cs s → Within d s → IfSome (tree rest d n s) (IsTree cs d s)
  unfolding tree
  tree_if zero s o w = tt
  tree_if (suc n) s o w = grown_if cs d s o w (tree rest d n) (λ a p v g. tree_if n a p v) (rest s) (k s o)

  tree_same : (n m : ℕ) (s : Store) → AreOver cs s → Within d s → total s < n → total s < m → tree rest d n s ≡ tree rest d m s
  unfolding tree
  tree_same zero m s o w l h = absurd (omega (arith, l))
  tree_same (suc n) zero s o w l h = absurd (omega (arith, h))
  tree_same (suc n) (suc m) s o w l h = grown_same cs d s o w (tree rest d n) (tree rest d m) (λ a p v g. tree_same n m a p v (omega (arith, l, g)) (omega (arith, h, g))) (rest s) (k s o)

pub ends_law : EndsLaw
ends_law cs d rest s h k = record {
  is_tree = λ n. tree_if cs d rest k n s h.over h.within;
  enough = λ n. tree_some cs d rest k n s h.over h.within;
  same = λ n m. tree_same cs d rest k n m s h.over h.within;
}
