-- Whether intervals have all integers of others.
use Rattle.std.proofs.Common.{◌≡◌, ◌∙◌, ℕ, suc, ◌+◌, ◌==◌, ◌<◌, ◌≤◌, ℤ, pos, ◌+ℤ◌, ◌≤ℤ◌, ◌<ℤ◌, Bool, true, false, not, int_le, List, [], ◌∷◌, ◌⊎◌, inl, inr, refl, sym, ap, subst, arith, length, drop, length-drop}
use Rattle.std.proofs.lemmas.Int.{ints}
use Rattle.std.proofs.lemmas.List.{get_or-drop}
use Rattle.std.proofs.lemmas.Bool.Decides.{nat_tests}
use Rattle.std.specs.Ordering.{int_cmp}
use Rattle.std.specs.FinSet as set
use Rattle.oz_base.specs.declared.interval.Interval.{Interval}
use Rattle.oz_domains.specs.Domains.{IntSet, Has, union, among, is_within}
use Rattle.fd_domain.specs.Covering.{Ends, HasAll, LacksOne}
use Rattle.fd_domain.specs.Parts.{interval_at, interval_has, IsPlace}
use Rattle.fd_domain.proofs.SetLaws.{int_cases, has-empty, retain_has, or_cases, and_left, and_right, and_both}
use Rattle.fd_domain.proofs.IntervalLaws.{contains-is, le_true, true_le}
use Rattle.fd_domain.proofs.DomainLaws.{none_kept, place_has}

pub among_place : (is : List Interval) (v : ℤ) (k : ℕ) → IsPlace v is k → among is v ≡ true
among_place is v k p = sym (contains-is is v) ∙ place_has (union is) is v k refl p

pub any_place : (is : List Interval) (v : ℤ) → among is v ≡ true → (k : ℕ) × IsPlace v is k
any_place [] v e = cc
any_place (i ∷ is) v e = elim (or_cases _ _ e) [
  | inl h ↦ (0, record { inside = omega arith; has = h })
  | inr r ↦ (let p = any_place is v r in (suc p.0, record { inside = omega (arith, p.1.inside); has = p.1.has }))
]

-- a place in what is left of a list
pub place_later : (is : List Interval) (v : ℤ) (start k : ℕ) → start ≤ length is → IsPlace v (drop start is) k → IsPlace v is (start + k)
place_later is v start k h p = record {
  inside = omega (arith, h, p.inside, length-drop start is);
  has = ap (interval_has v) (sym (get_or-drop start is k (record { low = pos 0; high = pos 0 }))) ∙ p.has;
}

-- the integers of an interval from one that it has on
pub above_place : (is : List Interval) (v w : ℤ) (k : ℕ) → IsPlace v is k → v ≤ℤ w → w ≤ℤ (interval_at is k).high → IsPlace w is k
above_place is v w k p h l =
    let i = interval_at is k in
    let low = le_true i.low v (and_left (int_le i.low v) (int_le v i.high) p.has) in
    record { inside = p.inside; has = and_both (int_le i.low w) (int_le w i.high) (true_le i.low w (omega (arith, ints, low, h))) (true_le w i.high l) }

-- all integers before one are there, and the interval that has it reaches to top
pub walked : (is : List Interval) (low v top : ℤ) (k : ℕ) → IsPlace v is k → (interval_at is k).high ≡ top → ((w : ℤ) → low ≤ℤ w → w <ℤ v → among is w ≡ true) → (w : ℤ) → low ≤ℤ w → w ≤ℤ top → among is w ≡ true
walked is low v top k p e old w h l = elim (int_cases w v) [
  | inl same ↦ among_place is w k (above_place is v w k p (omega (arith, ints, same)) (omega (arith, ints, e, l)))
  | inr o ↦ elim o [
    | inl before ↦ old w h before
    | inr after ↦ among_place is w k (above_place is v w k p (omega (arith, ints, after)) (omega (arith, ints, e, l)))
  ]
]

-- the last integer that is looked for is in the interval
pub ends_at : (is : List Interval) (low v high : ℤ) (k : ℕ) → IsPlace v is k → high ≤ℤ (interval_at is k).high → v ≤ℤ high → ((w : ℤ) → low ≤ℤ w → w <ℤ v → among is w ≡ true) → Ends is low high k
ends_at is low v high k p h l old = record {
  all = λ w a b. walked is low v (interval_at is k).high k p refl old w a (omega (arith, ints, h, b));
  last = above_place is v high k p l h;
}

-- or the next one comes after the interval
pub walk_on : (is : List Interval) (low v high next : ℤ) (k : ℕ) → IsPlace v is k → (interval_at is k).high <ℤ high → next ≡ (interval_at is k).high +ℤ pos 1 → low ≤ℤ v → ((w : ℤ) → low ≤ℤ w → w <ℤ v → among is w ≡ true)
    → (k ≤ length is) × (low ≤ℤ next) × (next ≤ℤ high) × ((w : ℤ) → low ≤ℤ w → w <ℤ next → among is w ≡ true)
walk_on is low v high next k p h e l old =
    let i = interval_at is k in
    let reaches = le_true v i.high (and_right (int_le i.low v) (int_le v i.high) p.has) in (
      omega (arith, p.inside),
      omega (arith, ints, l, reaches, e),
      omega (arith, ints, h, e),
      λ w a b. walked is low v i.high k p refl old w a (omega (arith, ints, b, e)),
    )

-- one interval more of which all integers are there
pub have_more : (is os : List Interval) (n : ℕ) (i : Interval) → interval_at os n ≡ i → ((v : ℤ) → i.low ≤ℤ v → v ≤ℤ i.high → among is v ≡ true)
    → ((j : ℕ) → j < n → (v : ℤ) → interval_has v (interval_at os j) ≡ true → among is v ≡ true) → (j : ℕ) → j < n + 1 → (v : ℤ) → interval_has v (interval_at os j) ≡ true → among is v ≡ true
have_more is os n i at now before j h v e = elim (less_or_same j n h) [
  | inl l ↦ before j l v e
  | inr same ↦ (
      let here : interval_has v i ≡ true = ap (interval_has v) (sym (ap (interval_at os) same ∙ at)) ∙ e in
      now v (le_true i.low v (and_left (int_le i.low v) (int_le v i.high) here)) (le_true v i.high (and_right (int_le i.low v) (int_le v i.high) here)))
]
  where
    less_or_same : (j n : ℕ) → j < n + 1 → (j < n) ⊎ (j ≡ n)
    less_or_same j n h = grind arith

pub have_to_end : (is os : List Interval) (n : ℕ) → length os ≤ n → ((j : ℕ) → j < n → (v : ℤ) → interval_has v (interval_at os j) ≡ true → among is v ≡ true) → HasAll is os
have_to_end is os n h all v e = let p = any_place os v e in all p.0 (omega (arith, h, p.1.inside)) v p.1.has

pub lack_at : (is os : List Interval) (n : ℕ) (i : Interval) (v : ℤ) → interval_at os n ≡ i → n < length os → i.low ≤ℤ v → v ≤ℤ i.high → among is v ≡ false → LacksOne is os
lack_at is os n i v at inside low high gone = record {
  value = v;
  there = among_place os v n (record { inside = inside; has = ap (interval_has v) at ∙ and_both (int_le i.low v) (int_le v i.high) (true_le i.low v low) (true_le v i.high high) });
  missing = gone;
}

-- A set whose members are all there

pub no_members : (s : IntSet) → s ≡ set.empty → (set.len s == 0) ≡ true
no_members s e = ap (λ z. set.len z == 0) e ∙ ap (λ n. n == 0) (set.len-empty int_cmp)

-- a set that has a member has one at least
pub some_members : (s : IntSet) (q : ℤ) → Has s q → (set.len s == 0) ≡ false
some_members s q h = by (set.len s == 0) refl
  where
    zero_is : (n : ℕ) → (n == 0) ≡ true → n ≡ 0
    zero_is n e = grind (arith, nat_tests)

    by : (b : Bool) → (set.len s == 0) ≡ b → b ≡ false
    by true e = absurd (has-empty q (subst (λ z. Has z q) (set.empty_of_len s (zero_is (set.len s) e)) h))
    by false e = refl

not_true : (b : Bool) → b ≡ true → not b ≡ true → ⊥
not_true true e f = cc
not_true false e f = cc

pub within_true : (s : IntSet) (os is : List Interval) → union os ≡ s → HasAll is os → is_within is s ≡ true
within_true s os is e all =
    no_members (set.retain s (λ v. not (among is v)))
    (none_kept s (λ v. not (among is v)) (λ q h t. not_true (among is q) (all q (sym (contains-is os q) ∙ subst (λ z. Has z q) (sym e) h)) t))

pub within_false : (s : IntSet) (os is : List Interval) → union os ≡ s → LacksOne is os → is_within is s ≡ false
within_false s os is e l =
    some_members (set.retain s (λ v. not (among is v))) l.value
    (retain_has s (λ v. not (among is v)) l.value (subst (λ z. Has z l.value) e (contains-is os l.value ∙ l.there)) (ap not l.missing))

pub within_is : (s : IntSet) (os is : List Interval) (b : Bool) → union os ≡ s → (b ≡ true → HasAll is os) → (b ≡ false → LacksOne is os) → b ≡ is_within is s
within_is s os is true e all lacks = sym (within_true s os is e (all refl))
within_is s os is false e all lacks = sym (within_false s os is e (lacks refl))
