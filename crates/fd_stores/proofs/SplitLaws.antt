-- What a split does to a store, and to the order of tuples.
use Rattle.std.proofs.Common.{◌≡◌, ◌≢◌, ℕ, zero, suc, ◌<◌, ◌⊎◌, inl, inr, ℤ, pos, ◌≤ℤ◌, ◌<ℤ◌, Bool, true, false, not, List, [], ◌∷◌, length, get_or, All, Option, Some, None, IsSomeAnd, refl, sym, ◌∙◌, ap, subst, arith}
use Rattle.std.proofs.lemmas.List.{length-map, get_or-map}
use Rattle.std.proofs.lemmas.Int.{ints}
use Rattle.std.specs.Ordering.{int_cmp, ordering_then}
use Rattle.std.specs.Cmp.{int_cmp_is}
use Rattle.std.specs.Cmp.Lexicographic.{slice_cmp}
use Rattle.std.specs.declared.cmp.Ordering.TheVariants.{Less, Equal}
use Rattle.oz_base.specs.declared.distribution.Rule.TheVariants.{Naive}
use Rattle.oz_base.specs.declared.distribution.Split.{Split}
use Rattle.oz_base.specs.declared.distribution.Test.TheVariants.{Is}
use Rattle.oz_domains.specs.Domains.{Has, least, is_single}
use Rattle.oz_domains.specs.Positions.{domain, value, IsIn, AreParts, AreDomains}
use Rattle.oz_domains.specs.Passes.{keep}
use Rattle.oz_domains.specs.Splits.{place_of, test_of, passes, AreHalves, IsFirst}
use Rattle.fd_domain.proofs.SetLaws.{least-below, has_retain-has, has_retain-passes, int_cases}
use Rattle.distributors.proofs.PartLaws.{test_parts}
use Rattle.fd_problems.specs.declared.problem.Distribution.{Distribution}
use Rattle.fd_problems.specs.Problems.{IsLeft, values_at}
use Rattle.fd_stores.specs.Stores.{Store, Constraint, domains_at, Solves}
use Rattle.fd_stores.specs.Choices.{choice, split_variable, first_store, second_store}
use Rattle.fd_stores.specs.Laws.{AreOver, AreAlternatives, SplitLaw, NaiveLaw}
use Rattle.fd_stores.proofs.Sets.{single_value, same_int, int_same}
use Rattle.fd_stores.proofs.StoreLaws.{Kept, keep_some, keep_kept, kept_in, kept_part, kept_passes, kept_parts, kept_domains, domain_of_position}
use Rattle.fd_stores.proofs.Lists.{at_some}
use Rattle.fd_stores.proofs.RunLaws.{solves_parts, over_parts, fewer}
use Rattle.fd_stores.proofs.PlaceLaws.{choice_some, place_open, first_is}

true_not : (b : Bool) → not b ≡ true → b ≡ true → ⊥
true_not true e h = cc
true_not false e h = cc

-- ---- the variable that is split

-- the split variable is one of the store, not determined, and the two parts of its domain have each a value
pub record SplitsAt (d : Distribution) (s : Store) (p : Split) : Type 0 where
  pub place : p.var < length d.over
  pub inside : split_variable d p < length s
  pub here : domain (domains_at s d.over) p.var ≡ domain s (split_variable d p)
  pub halves : AreHalves p.test (domain s (split_variable d p))

pub splits_at : (d : Distribution) (s : Store) (p : Split) → AreDomains s → All (λ x. x < length s) d.over → choice d s ≡ Some p → SplitsAt d s p
splits_at d s p k w e =
    let c = choice_some d s p e in
    let o = place_open d.rule (domains_at s d.over) p.var c.0 in
    let place : p.var < length d.over = (let l = o.inside in let m = length-map d.over (domain s) in omega arith) in
    let here = domain_of_position s d.over p.var place in
    let inside : split_variable d p < length s = w p.var 0 place in
    record {
      place = place;
      inside = inside;
      here = here;
      halves = subst (λ t. AreHalves t (domain s (split_variable d p))) (sym (c.1 ∙ ap (test_of d.rule) here))
          (test_parts d.rule (domain s (split_variable d p)) (k (split_variable d p) inside) (sym (ap is_single here) ∙ o.undetermined));
    }

-- ---- the two stores

module _ (cs : List Constraint) (s a b : Store) (x : ℕ) (test : ℤ → Bool) (o : AreOver cs s) (l : x < length s) (k : Kept x test s a) (j : Kept x (λ v. not (test v)) s b) where
  a_solves : (t : List ℤ) → Solves cs s t → test (value t x) ≡ true → Solves cs a t
  a_solves t h e = record { inside = kept_in x test s a t k h.inside e; met = h.met }

  b_solves : (t : List ℤ) → Solves cs s t → not (test (value t x)) ≡ true → Solves cs b t
  b_solves t h e = record { inside = kept_in x (λ v. not (test v)) s b t j h.inside e; met = h.met }

  one_of : (t : List ℤ) → Solves cs s t → (c : Bool) → test (value t x) ≡ c → Solves cs a t ⊎ Solves cs b t
  one_of t h true e = inl (a_solves t h e)
  one_of t h false e = inr (b_solves t h (ap not e))

  a_parts : AreParts a s
  a_parts = kept_parts x test s a l k

  b_parts : AreParts b s
  b_parts = kept_parts x (λ v. not (test v)) s b l j

  pub a_passes : (q : ℤ) → Has (domain a x) q → test q ≡ true
  a_passes q h = kept_passes x test s a l k q h

  pub b_refuses : (q : ℤ) → Has (domain b x) q → test q ≡ true → ⊥
  b_refuses q h = true_not (test q) (kept_passes x (λ v. not (test v)) s b l j q h)

  a_smaller : a ≢ s
  a_smaller e = (let q = j.some.0 in let h = b_parts.each x q j.some.1 in b_refuses q j.some.1 (a_passes q (subst (λ z. Has (domain z x) q) (sym e) h)))

  b_smaller : b ≢ s
  b_smaller e = (let q = k.some.0 in let h = a_parts.each x q k.some.1 in b_refuses q (subst (λ z. Has (domain z x) q) (sym e) h) (a_passes q k.some.1))

  pub alternatives : AreAlternatives cs s a b
  alternatives = record {
    cover = λ t. (λ h. one_of t h (test (value t x)) refl, λ h. elim h [ inl f ↦ solves_parts cs s a t a_parts f | inr g ↦ solves_parts cs s b t b_parts g ]);
    disjoint = λ t f g. (
        let u = f.inside in
        let v = g.inside in
        b_refuses (value t x) (v.each x (let e = j.long in omega arith)) (a_passes (value t x) (u.each x (let e = k.long in omega arith))));
    first = (over_parts cs s a o a_parts (kept_domains x test s a l k o.domains), a_parts, fewer s a a_parts a_smaller);
    second = (over_parts cs s b o b_parts (kept_domains x (λ v. not (test v)) s b l j o.domains), b_parts, fewer s b b_parts b_smaller);
  }

some_both : (o r : Option Store) (P Q : Store → Type 0) (R : Store → Store → Type 0) → IsSomeAnd o P → IsSomeAnd r Q → ((a b : Store) → P a → Q b → R a b) → IsSomeAnd o (λ a. IsSomeAnd r (R a))
some_both None r P Q R h k f = h
some_both (Some a) None P Q R h k f = k
some_both (Some a) (Some b) P Q R h k f = f a b h k

pub split_law : SplitLaw
split_law cs d s p o w e =
    let x = split_variable d p in
    let q = splits_at d s p o.domains w e in
    let first = q.halves.first in
    let second = q.halves.second in
    some_both (first_store d p s) (second_store d p s) (Kept x (passes p.test) s) (Kept x (λ v. not (passes p.test v)) s) (AreAlternatives cs s)
    (keep_some x (passes p.test) s first.0 q.inside (has_retain-has (domain s x) (passes p.test) first.0 first.1) (has_retain-passes (domain s x) (passes p.test) first.0 first.1))
    (keep_some x (λ v. not (passes p.test v)) s second.0 q.inside (has_retain-has (domain s x) (λ v. not (passes p.test v)) second.0 second.1) (has_retain-passes (domain s x) (λ v. not (passes p.test v)) second.0 second.1))
    (λ a b k j. alternatives cs s a b x (passes p.test) o q.inside k j)

-- ---- order

less_at : (x y : ℤ) (xs ys : List ℤ) → x <ℤ y → slice_cmp int_cmp (x ∷ xs) (y ∷ ys) ≡ Less
less_at x y xs ys l = ap (λ r. ordering_then r (slice_cmp int_cmp xs ys)) (sym (int_cmp_is x y Less l))

equal_at : (x y : ℤ) (xs ys : List ℤ) → x ≡ y → slice_cmp int_cmp xs ys ≡ Less → slice_cmp int_cmp (x ∷ xs) (y ∷ ys) ≡ Less
equal_at x y xs ys e h = ap (λ r. ordering_then r (slice_cmp int_cmp xs ys)) (sym (int_cmp_is x y Equal e)) ∙ h

-- lists that differ first at a place, where the first is less
left_at : (xs ys : List ℤ) (i : ℕ) → i < length xs → length xs ≡ length ys → ((j : ℕ) → j < i → value xs j ≡ value ys j) → value xs i <ℤ value ys i → IsLeft xs ys
left_at [] ys i l e b h = absurd (omega (arith, l))
left_at (x ∷ xs) [] i l e b h = absurd (omega (arith, e))
left_at (x ∷ xs) (y ∷ ys) zero l e b h = less_at x y xs ys h
left_at (x ∷ xs) (y ∷ ys) (suc i) l e b h = equal_at x y xs ys (b 0 (omega arith)) (left_at xs ys i (omega (arith, l)) (omega (arith, e)) (λ j k. b (suc j) (omega (arith, k))) h)

-- the stores of a split, as it leaves them
pub record Halved (d : Distribution) (s : Store) (p : Split) (a b : Store) : Type 0 where
  pub splits : SplitsAt d s p
  pub first : Kept (split_variable d p) (passes p.test) s a
  pub second : Kept (split_variable d p) (λ v. not (passes p.test v)) s b

kept_at : (i : ℕ) (test : ℤ → Bool) (s m : Store) → i < length s → keep i test s ≡ Some m → Kept i test s m
kept_at i test s m l e = at_some (keep i test s) m (Kept i test s) (keep_kept i test s l) e

pub halved : (d : Distribution) (s a b : Store) (p : Split) → AreDomains s → All (λ x. x < length s) d.over → choice d s ≡ Some p → first_store d p s ≡ Some a → second_store d p s ≡ Some b → Halved d s p a b
halved d s a b p k w e f g =
    let q = splits_at d s p k w e in
    let x = split_variable d p in
    record { splits = q; first = kept_at x (passes p.test) s a q.inside f; second = kept_at x (λ v. not (passes p.test v)) s b q.inside g }

module _ (d : Distribution) (s a b : Store) (p : Split) (h : Halved d s p a b) (w : All (λ x. x < length s) d.over) (t u : List ℤ) (ia : IsIn a t) (ib : IsIn b u) where
  value_at : (v : List ℤ) (j : ℕ) → j < length d.over → value (values_at v d.over) j ≡ value v (get_or d.over j 0)
  value_at v j l = get_or-map (value v) d.over j 0 (pos 0) l

  first_passes : passes p.test (value t (split_variable d p)) ≡ true
  first_passes =
      let k = h.first in
      let q = h.splits in
      kept_passes (split_variable d p) (passes p.test) s a q.inside k _ (ia.each (split_variable d p) (let e = k.long in let l = q.inside in omega arith))

  second_refuses : passes p.test (value u (split_variable d p)) ≡ true → ⊥
  second_refuses =
      let k = h.second in
      let q = h.splits in
      true_not _ (kept_passes (split_variable d p) (λ v. not (passes p.test v)) s b q.inside k _ (ib.each (split_variable d p) (let e = k.long in let l = q.inside in omega arith)))

  -- tuples of the two stores differ at the split variable
  pub differ_at : values_at t d.over ≡ values_at u d.over → ⊥
  differ_at e =
      let q = h.splits in
      let same : value t (split_variable d p) ≡ value u (split_variable d p) = sym (value_at t p.var q.place) ∙ ap (λ v. value v p.var) e ∙ value_at u p.var q.place in
      second_refuses (ap (passes p.test) (sym same) ∙ first_passes)

  least_first : (n : ℤ) → p.test ≡ Is n → value t (split_variable d p) ≡ n
  least_first n e = int_same _ n (subst (λ z. passes z (value t (split_variable d p)) ≡ true) e first_passes)

  least_second : (n : ℤ) → p.test ≡ Is n → value u (split_variable d p) ≡ n → ⊥
  least_second n e f = second_refuses (subst (λ z. passes z (value u (split_variable d p)) ≡ true) (sym e) (same_int _ n f))

  -- the tuples of the second store are of the whole, too
  whole_t : (x : ℕ) → x < length s → Has (domain s x) (value t x)
  whole_t x l = (let k = h.first in let q = h.splits in kept_part (split_variable d p) (passes p.test) s a q.inside k x _ (ia.each x (let e = k.long in omega arith)))

  whole_u : (x : ℕ) → x < length s → Has (domain s x) (value u x)
  whole_u x l = (let k = h.second in let q = h.splits in kept_part (split_variable d p) (λ v. not (passes p.test v)) s b q.inside k x _ (ib.each x (let e = k.long in omega arith)))

  same_before : IsFirst (domains_at s d.over) p.var → (j : ℕ) → j < p.var → value (values_at t d.over) j ≡ value (values_at u d.over) j
  same_before f j l =
      let q = h.splits in
      let m : j < length d.over = (let r = q.place in omega arith) in
      let x = get_or d.over j 0 in
      let inside : x < length s = w j 0 m in
      let single : is_single (domain s x) ≡ true = sym (ap is_single (domain_of_position s d.over j m)) ∙ f.before j l in
      value_at t j m ∙ single_value (domain s x) (value t x) single (whole_t x inside) ∙ sym (single_value (domain s x) (value u x) single (whole_u x inside)) ∙ sym (value_at u j m)

  strict : (x y n : ℤ) → x ≡ n → n ≤ℤ y → (y ≡ n → ⊥) → x <ℤ y
  strict x y n e l f = elim (int_cases x y) [ inl g ↦ absurd (f (sym g ∙ e)) | inr o ↦ elim o [ inl g ↦ g | inr g ↦ absurd (omega (arith, ints)) ] ]

  pub is_left : IsFirst (domains_at s d.over) p.var → p.test ≡ Is (least (domain s (split_variable d p))) → IsLeft (values_at t d.over) (values_at u d.over)
  is_left f e =
      let q = h.splits in
      let x = split_variable d p in
      let n = least (domain s x) in
      let below : value t x <ℤ value u x = strict (value t x) (value u x) n (least_first n e) (least-below (domain s x) (value u x) (whole_u x q.inside)) (least_second n e) in
      left_at (values_at t d.over) (values_at u d.over) p.var (let g = length-map d.over (value t) in let l = q.place in omega arith) (length-map d.over (value t) ∙ sym (length-map d.over (value u))) (same_before f)
      (subst (λ z. z <ℤ value (values_at u d.over) p.var) (sym (value_at t p.var q.place)) (subst (λ z. value t x <ℤ z) (sym (value_at u p.var q.place)) below))

pub naive_first : (d : Distribution) (s : Store) (p : Split) → d.rule ≡ Naive → choice d s ≡ Some p → IsFirst (domains_at s d.over) p.var
naive_first d s p r e = first_is (domains_at s d.over) p.var (subst (λ z. place_of z (domains_at s d.over) ≡ Some p.var) r (choice_some d s p e).0)

pub naive_test : (d : Distribution) (s : Store) (p : Split) → d.rule ≡ Naive → choice d s ≡ Some p → SplitsAt d s p → p.test ≡ Is (least (domain s (split_variable d p)))
naive_test d s p r e q = (choice_some d s p e).1 ∙ ap (λ z. test_of z (domain (domains_at s d.over) p.var)) r ∙ ap (λ z. Is (least z)) q.here

pub naive_law : NaiveLaw
naive_law d s a b p k w r e f g t u ia ib =
    let h = halved d s a b p k w e f g in
    is_left d s a b p h w t u ia ib (naive_first d s p r e) (naive_test d s p r e h.splits)
