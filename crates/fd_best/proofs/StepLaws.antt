-- What one branch of a bounded tree does to the store of a node.
use Rattle.std.proofs.Common.{◌≡◌, ℕ, ◌<◌, ◌⊎◌, inl, inr, ℤ, int_lt, Bool, true, false, cond, not, ◌&&◌, nat_eq, List, length, Option, Some, None, IsSomeAnd, refl, sym, ◌∙◌, ap, subst, arith}
use Rattle.oz_base.specs.declared.distribution.Split.{Split}
use Rattle.oz_domains.specs.Positions.{value, IsIn, AreParts}
use Rattle.oz_domains.specs.Passes.{keep}
use Rattle.oz_domains.specs.Splits.{passes}
use Rattle.oz_search.specs.declared.best.Bounded.{Bounded}
use Rattle.propagators.proofs.StepLaws.{parts_trans}
use Rattle.fd_problems.specs.declared.problem.Distribution.{Distribution}
use Rattle.fd_stores.specs.Stores.{Store, Constraint, Rests, Solves}
use Rattle.fd_stores.specs.Choices.{split_variable}
use Rattle.fd_stores.specs.Laws.{AreOver}
use Rattle.fd_stores.proofs.Lists.{at_some}
use Rattle.fd_stores.proofs.StoreLaws.{Kept, keep_kept, keep_some, kept_in, kept_parts, kept_domains, kept_passes}
use Rattle.fd_stores.proofs.RunLaws.{in_parts, over_parts, fails_none}
use Rattle.fd_stores.proofs.SplitLaws.{halved}
use Rattle.fd_stores.proofs.PlaceLaws.{choice_none}
use Rattle.fd_trees.specs.Laws.{IsEnd}
use Rattle.fd_trees.proofs.TreeLaws.{rests_keep}
use Rattle.fd_trees.proofs.EndLaws.{Within, within_parts}
use Rattle.fd_bounds.specs.Bounds.{below}
use Rattle.fd_bounds.proofs.BoundLaws.{bounded_by}
use Rattle.fd_bounds.specs.BoundedTrees.{BoundedTree, Failed, Leaf, Choice, IsBoundedTree, cut, failed, leaf, split}
use Rattle.fd_best.specs.Parts.{child, is_under, takes, goes}

-- ---- Booleans and options

pub and_first : (a b : Bool) → (a && b) ≡ true → a ≡ true
and_first true b e = refl
and_first false b e = e

pub and_second : (a b : Bool) → (a && b) ≡ true → b ≡ true
and_second true b e = e
and_second false b e = absurd (cc)

and_all : (a b : Bool) → a ≡ true → b ≡ true → (a && b) ≡ true
and_all a b e f = ap (λ z. z && b) e ∙ f

pub none_some : {P : Type 0} (w : BoundedTree) → ◌≡◌ {A = Option BoundedTree} None (Some w) → P
none_some w e = absurd (cc (e))

same_some : (a b : BoundedTree) → Some a ≡ Some b → a ≡ b
same_some a b e = cc

is_store : (a b : Store) → Some a ≡ Some b → a ≡ b
is_store a b e = cc

not_none : (o : Option Store) (P : Store → Type 0) → IsSomeAnd o P → o ≡ None → ⊥
not_none None P h e = h
not_none (Some a) P h e = cc

there : (o : Option Store) (e : Store) (P : Store → Type 0) → IsSomeAnd o P → o ≡ Some e → P e
there o e P h k = subst (λ z. IsSomeAnd z P) k h

some_weaker : (o : Option Store) (P Q : Store → Type 0) → IsSomeAnd o P → ((x : Store) → P x → Q x) → IsSomeAnd o Q
some_weaker None P Q h k = h
some_weaker (Some x) P Q h k = k x h

-- the forms of trees differ
leaf_failed : (m : Store) → Leaf m ≡ Failed → ⊥
leaf_failed m e = cc (e)

choice_failed : (x : Split) (l r : Option ℤ → BoundedTree) → Choice x l r ≡ Failed → ⊥
choice_failed x l r e = cc (e)

choice_leaf : (x : Split) (l r : Option ℤ → BoundedTree) (m : Store) → Choice x l r ≡ Leaf m → ⊥
choice_leaf x l r m e = cc (e)

leaf_is : (m n : Store) → Leaf m ≡ Leaf n → m ≡ n
leaf_is m n e = cc

-- the alternative that a branch takes
which : (i : ℕ) (l r w : BoundedTree) → cond (nat_eq i 1) (Some l) (cond (nat_eq i 2) (Some r) None) ≡ Some w → ((nat_eq i 1 ≡ true) × (l ≡ w)) ⊎ ((nat_eq i 1 ≡ false) × (r ≡ w))
which i l r w = by (nat_eq i 1) (nat_eq i 2)
  where
    by : (a b : Bool) → cond a (Some l) (cond b (Some r) None) ≡ Some w → ((a ≡ true) × (l ≡ w)) ⊎ ((a ≡ false) × (r ≡ w))
    by true b e = inl (refl, same_some l w e)
    by false true e = inr (refl, same_some r w e)
    by false false e = none_some w e

module _ (cs : List Constraint) (d : Distribution) (cost : ℕ) (root : Store) (w : Within d root) (l : cost < length root) where
  inside : (s : Store) → AreParts s root → cost < length s
  inside s p = (let k = p.long in omega (arith, l, k))

  -- ---- a bound

  -- a solution below a bound is kept
  below_some : (u : Option ℤ) (s : Store) (v : List ℤ) → cost < length s → Solves cs s v → is_under (value v cost) u ≡ true → IsSomeAnd (below cost u s) (λ e. Solves cs e v)
  below_some None s v k h e = h
  below_some (Some b) s v k h e =
      let i = h.inside in
      let test = λ (z : ℤ). int_lt z b in
      some_weaker (keep cost test s) (Kept cost test s) (λ z. Solves cs z v) (keep_some cost test s (value v cost) k (i.each cost k) e)
      (λ z g. record { inside = kept_in cost test s z v g i e; met = h.met })

  -- what is kept is below it
  below_under : (u : Option ℤ) (s e : Store) (v : List ℤ) → cost < length s → below cost u s ≡ Some e → IsIn e v → is_under (value v cost) u ≡ true
  below_under None s e v k h i = refl
  below_under (Some b) s e v k h i =
      let test = λ (z : ℤ). int_lt z b in
      let g = at_some (keep cost test s) e (Kept cost test s) (keep_kept cost test s k) h in
      kept_passes cost test s e k g (value v cost) (i.each cost (let q = g.long in omega (arith, k, q)))

  -- ---- a store that was told a bound and run

  pub record Ran (u : Option ℤ) (s m : Store) : Type 0 where
    pub over : AreOver cs m
    pub lower : AreParts m s
    pub parts : AreParts m root
    pub keeps : (v : List ℤ) → Solves cs s v → is_under (value v cost) u ≡ true → Solves cs m v
    pub under : (v : List ℤ) → IsIn m v → is_under (value v cost) u ≡ true

  ran : (u : Option ℤ) (s e m : Store) → AreOver cs s → AreParts s root → below cost u s ≡ Some e → Rests cs e m → Ran u s m
  ran u s e m o p h r =
      let k = inside s p in
      let b = bounded_by cs d cost u s e o k h in
      let n = rests_keep cs e m b.over r in
      let q = parts_trans s e m b.parts n.parts in
      record {
        over = n.over;
        lower = q;
        parts = parts_trans root s m p q;
        keeps = λ v f un. n.solves v (there (below cost u s) e (λ z. Solves cs z v) (below_some u s v k f un) h);
        under = λ v i. below_under u s e v k h (in_parts e m v n.parts i);
      }

  -- ---- a store that was told a test

  record Taken (x : ℕ) (test : ℤ → Bool) (m a : Store) : Type 0 where
    pub over : AreOver cs a
    pub parts : AreParts a m
    pub keeps : (v : List ℤ) → Solves cs m v → test (value v x) ≡ true → Solves cs a v
    pub passing : (v : List ℤ) → IsIn a v → test (value v x) ≡ true

  taken : (x : ℕ) (test : ℤ → Bool) (m a : Store) → AreOver cs m → x < length m → Kept x test m a → Taken x test m a
  taken x test m a o k g =
      let p = kept_parts x test m a k g in
      record {
        over = over_parts cs m a o p (kept_domains x test m a k g o.domains);
        parts = p;
        keeps = λ v h e. record { inside = kept_in x test m a v g h.inside e; met = h.met };
        passing = λ v i. kept_passes x test m a k g (value v x) (i.each x (let q = g.long in omega (arith, k, q)));
      }

  -- ---- a branch

  -- the store of the child, which solutions fall to and tuples rise from
  pub record Steps (u : Option ℤ) (s : Store) (b : Bounded) (t c : BoundedTree) : Type 0 where
    pub store : Store
    pub over : AreOver cs store
    pub parts : AreParts store root
    pub shape : IsBoundedTree cs d cost b.bound store c
    pub falls : (v : List ℤ) → Solves cs s v → is_under (value v cost) u ≡ true → goes d cost b v t ≡ true → Solves cs store v × (is_under (value v cost) b.bound ≡ true)
    pub rises : (v : List ℤ) → IsIn store v → is_under (value v cost) b.bound ≡ true → IsIn s v × (is_under (value v cost) u ≡ true) × (goes d cost b v t ≡ true)

  one_step : (u : Option ℤ) (s m a : Store) (b : Bounded) (x : Split) (f g : Option ℤ → BoundedTree) (c : BoundedTree) (test : ℤ → Bool) → Ran u s m → Taken (split_variable d x) test m a
      → IsBoundedTree cs d cost b.bound a c → ((v : List ℤ) → takes d x b.alternative v ≡ test (value v (split_variable d x))) → Steps u s b (Choice x f g) c
  one_step u s m a b x f g c test k n h same = record {
    store = a;
    over = n.over;
    parts = parts_trans root m a k.parts n.parts;
    shape = h;
    falls = λ v sol un go. (n.keeps v (k.keeps v sol un) (sym (same v) ∙ and_first (takes d x b.alternative v) (is_under (value v cost) b.bound) go), and_second (takes d x b.alternative v) (is_under (value v cost) b.bound) go);
    rises = λ v i un. (let j = in_parts m a v n.parts i in (in_parts s m v k.lower j, k.under v j, and_all (takes d x b.alternative v) (is_under (value v cost) b.bound) (same v ∙ n.passing v i) un));
  }

  pub steps : (u : Option ℤ) (s : Store) (b : Bounded) (t c : BoundedTree) → AreOver cs s → AreParts s root → IsBoundedTree cs d cost u s t → child b t ≡ Some c → Steps u s b t c
  steps u s b t c o p (cut h) e = none_some c e
  steps u s b t c o p (failed h f) e = none_some c e
  steps u s b t c o p (leaf h r k) e = none_some c e
  steps u s b t c o p (split {e = z} {m = m} {a = a1} {b = a2} {l = left} {r = right} x h rests ch fs ss hl hr) e =
      let k = ran u s z m o p h rests in
      let ov = k.over in
      let half = halved d m a1 a2 x ov.domains (within_parts d root m k.parts w) ch fs ss in
      let sp = half.splits in
      let sv = split_variable d x in
      elim (which b.alternative (left b.bound) (right b.bound) c e) [
        | inl i ↦ one_step u s m a1 b x left right c (passes x.test) k (taken sv (passes x.test) m a1 ov sp.inside half.first) (subst (IsBoundedTree cs d cost b.bound a1) i.1 (hl b.bound))
            (λ v. ap (λ q. cond q (passes x.test (value v sv)) (not (passes x.test (value v sv)))) i.0)
        | inr i ↦ one_step u s m a2 b x left right c (λ v. not (passes x.test v)) k (taken sv (λ v. not (passes x.test v)) m a2 ov sp.inside half.second) (subst (IsBoundedTree cs d cost b.bound a2) i.1 (hr b.bound))
            (λ v. ap (λ q. cond q (passes x.test (value v sv)) (not (passes x.test (value v sv)))) i.0)
      ]

  -- ---- ends of a path

  -- no solution below its bound is below a node that has failed
  pub no_failed : (u : Option ℤ) (s : Store) (v : List ℤ) (t : BoundedTree) → t ≡ Failed → AreOver cs s → AreParts s root → IsBoundedTree cs d cost u s t → Solves cs s v → is_under (value v cost) u ≡ true → ⊥
  no_failed u s v t same o p (cut h) f un = not_none (below cost u s) (λ z. Solves cs z v) (below_some u s v (inside s p) f un) h
  no_failed u s v t same o p (failed {e = e} h g) f un =
      let k = inside s p in
      let b = bounded_by cs d cost u s e o k h in
      fails_none cs e b.over g v (there (below cost u s) e (λ z. Solves cs z v) (below_some u s v k f un) h)
  no_failed u s v t same o p (leaf {m = m} h r c) f un = leaf_failed m same
  no_failed u s v t same o p (split {l = left} {r = right} x h rests ch fs ss hl hr) f un = choice_failed x left right same

  -- a leaf is an end, and it keeps them
  pub record Ended (u : Option ℤ) (s m : Store) : Type 0 where
    pub ends : IsEnd cs d root m
    pub kept : Ran u s m

  pub ended : (u : Option ℤ) (s m : Store) (t : BoundedTree) → t ≡ Leaf m → AreOver cs s → AreParts s root → IsBoundedTree cs d cost u s t → Ended u s m
  ended u s m t same o p (cut h) = absurd (leaf_failed m (sym same))
  ended u s m t same o p (failed h g) = absurd (leaf_failed m (sym same))
  ended u s m t same o p (leaf {e = e} {m = n} h r c) =
      let k = ran u s e n o p h r in
      subst (Ended u s) (leaf_is n m same) (record { ends = record { over = k.over; parts = k.parts; rest = r.rest; determined = choice_none d n c }; kept = k })
  ended u s m t same o p (split {l = left} {r = right} x h rests ch fs ss hl hr) = absurd (choice_leaf x left right m same)
