-- The intervals of a set are the runs of its members, ascending.
use Rattle.std.proofs.Common.{◌≡◌, ℤ, pos, ◌+ℤ◌, ◌-ℤ◌, ◌≤ℤ◌, ◌<ℤ◌, int_lt, Bool, true, false, if◌then◌else◌, List, [], ◌∷◌, refl, sym, ◌∙◌, ap, subst, inl, inr, ◌⊎◌, arith}
use Rattle.std.proofs.lemmas.Int.{ints}
use Rattle.std.specs.List.{list_any}
use Rattle.std.specs.FinSet as set
use Rattle.std.specs.Ordering.{int_cmp, int_eq, eq_by_cmp}
use Rattle.oz_base.specs.declared.interval.Interval.{Interval}
use Rattle.oz_base.specs.declared.interval.TheConstants.{LEAST_VALUE, GREATEST_VALUE}
use Rattle.oz_domains.specs.Domains.{IntSet, Has, with_run, count, union, single, AreApart, AreIntervals, with_below, runs, with_value, ascending, intervals_of, least, greatest, is_within}
use Rattle.fd_domain.proofs.Covers.{Covers}
use Rattle.fd_domain.proofs.SetLaws.{int_cases, count-is, tied, ties, or_cases, or_left, or_right, same_members, least-below, greatest-above}
use Rattle.fd_domain.proofs.CoveringLaws.{within_true}
use Rattle.fd_domain.proofs.IntervalLaws.{has-covers, covers-has, covers-above, covers-below, canonical}

-- Members

abbrev Member : ℤ → List ℤ → Type 0
Member q [] = ⊥
Member q (v ∷ vs) = (q ≡ v) ⊎ Member q vs

any_member : (q : ℤ) (vs : List ℤ) → list_any (eq_by_cmp int_cmp q) vs ≡ true → Member q vs
any_member q [] h = cc
any_member q (v ∷ vs) h = elim (or_cases _ _ h) [ inl e ↦ inl (tied q v e) | inr g ↦ inr (any_member q vs g) ]

member_any : (q : ℤ) (vs : List ℤ) → Member q vs → list_any (eq_by_cmp int_cmp q) vs ≡ true
member_any q [] h = absurd h
member_any q (v ∷ vs) (inl e) = or_left _ _ (subst (λ z. eq_by_cmp int_cmp q z ≡ true) e (ties q))
member_any q (v ∷ vs) (inr h) = or_right (eq_by_cmp int_cmp q v) _ (member_any q vs h)

-- Values that ascend, above the floor and not above the ceiling

abbrev Ascends : ℤ → ℤ → List ℤ → Type 0
Ascends floor ceiling [] = Unit {0}
Ascends floor ceiling (v ∷ vs) = (floor <ℤ v) × (v ≤ℤ ceiling) × Ascends v ceiling vs

lt_true : (a b : ℤ) → int_lt a b ≡ true → a <ℤ b
lt_true a b e = grind (arith, ints)

lt_false : (a b : ℤ) → int_lt a b ≡ false → b ≤ℤ a
lt_false a b e = grind (arith, ints)

eq_true : (a b : ℤ) → int_eq a b ≡ true → a ≡ b
eq_true a b e = tied a b e

eq_false : (a b : ℤ) → int_eq a b ≡ false → a ≡ b → ⊥
eq_false a b e h = true_false (sym (subst (λ z. int_eq a z ≡ true) h (ties a)) ∙ e) where
  true_false : true ≡ false → ⊥
  true_false h = cc

strict : (v w : ℤ) → w ≤ℤ v → (v ≡ w → ⊥) → w <ℤ v
strict v w g n = elim (int_cases v w) [
  | inl e ↦ absurd (n e)
  | inr o ↦ elim o [ inl l ↦ absurd (omega (arith, ints, g, l)) | inr l ↦ l ]
]

further : (v w : ℤ) → v <ℤ w → (v +ℤ pos 1 ≡ w → ⊥) → (v +ℤ pos 1) <ℤ w
further v w g n = elim (int_cases (v +ℤ pos 1) w) [
  | inl e ↦ absurd (n e)
  | inr o ↦ elim o [ inl l ↦ l | inr l ↦ absurd (omega (arith, ints, g, l)) ]
]

first_or : (v q : ℤ) → v ≤ℤ q → (q ≡ v) ⊎ ((v +ℤ pos 1) ≤ℤ q)
first_or v q g = elim (int_cases q v) [
  | inl e ↦ inl e
  | inr o ↦ elim o [ inl l ↦ absurd (omega (arith, ints, g, l)) | inr l ↦ inr (omega (arith, ints, l)) ]
]

value_placed : (f c v : ℤ) (ws : List ℤ) → f <ℤ v → v ≤ℤ c → Ascends f c ws → Ascends f c (with_value v ws)
value_placed f c v [] l h a = (l, h, tt)
value_placed f c v (w ∷ ws) l h a = by (int_lt v w) (int_eq v w) refl refl (λ g. value_placed w c v ws g h a.2)
  where
    by : (b e : Bool) → int_lt v w ≡ b → int_eq v w ≡ e → (w <ℤ v → Ascends w c (with_value v ws)) → Ascends f c (if b then v ∷ w ∷ ws else (if e then w ∷ ws else w ∷ with_value v ws))
    by true e p q rest = (l, h, (lt_true v w p, a.1, a.2))
    by false true p q rest = a
    by false false p q rest = (a.0, a.1, rest (strict v w (lt_false v w p) (eq_false v w q)))

all_ascend : (f c : ℤ) (vs : List ℤ) → ((q : ℤ) → Member q vs → (f <ℤ q) × (q ≤ℤ c)) → Ascends f c (ascending vs)
all_ascend f c [] all = tt
all_ascend f c (v ∷ vs) all = let here = all v (inl refl) in value_placed f c v (ascending vs) here.0 here.1 (all_ascend f c vs (λ q h. all q (inr h)))

placed-member : (q v : ℤ) (ws : List ℤ) → Member q (with_value v ws) → Member q (v ∷ ws)
placed-member q v [] h = h
placed-member q v (w ∷ ws) h = by (int_lt v w) (int_eq v w) (placed-member q v ws) h
  where
    by : (b e : Bool) → (Member q (with_value v ws) → Member q (v ∷ ws)) → Member q (if b then v ∷ w ∷ ws else (if e then w ∷ ws else w ∷ with_value v ws)) → Member q (v ∷ w ∷ ws)
    by true e rest k = k
    by false true rest k = inr k
    by false false rest (inl k) = inr (inl k)
    by false false rest (inr k) = elim (rest k) [ inl same ↦ inl same | inr other ↦ inr (inr other) ]

member-placed : (q v : ℤ) (ws : List ℤ) → Member q (v ∷ ws) → Member q (with_value v ws)
member-placed q v [] h = h
member-placed q v (w ∷ ws) h = by (int_lt v w) (int_eq v w) refl (member-placed q v ws) h
  where
    by : (b e : Bool) → int_eq v w ≡ e → (Member q (v ∷ ws) → Member q (with_value v ws)) → Member q (v ∷ w ∷ ws) → Member q (if b then v ∷ w ∷ ws else (if e then w ∷ ws else w ∷ with_value v ws))
    by true e p rest k = k
    by false true p rest (inl k) = inl (k ∙ eq_true v w p)
    by false true p rest (inr k) = k
    by false false p rest (inl k) = inr (rest (inl k))
    by false false p rest (inr (inl k)) = inl k
    by false false p rest (inr (inr k)) = inr (rest (inr k))

ascending-member : (q : ℤ) (vs : List ℤ) → Member q (ascending vs) → Member q vs
ascending-member q [] h = h
ascending-member q (v ∷ vs) h = elim (placed-member q v (ascending vs) h) [ inl e ↦ inl e | inr k ↦ inr (ascending-member q vs k) ]

member-ascending : (q : ℤ) (vs : List ℤ) → Member q vs → Member q (ascending vs)
member-ascending q [] h = h
member-ascending q (v ∷ vs) (inl e) = member-placed q v (ascending vs) (inl e)
member-ascending q (v ∷ vs) (inr h) = member-placed q v (ascending vs) (inr (member-ascending q vs h))

-- Runs

below_apart : (f c v : ℤ) (is : List Interval) → f <ℤ v → v ≤ℤ c → AreApart v c is → AreApart f c (with_below v is)
below_apart f c v [] l h a = (record { above = l; ordered = omega (arith, ints); below = h }, tt)
below_apart f c v (i ∷ is) l h a = by (int_eq (v +ℤ pos 1) i.low) refl
  where
    by : (b : Bool) → int_eq (v +ℤ pos 1) i.low ≡ b → AreApart f c (if b then record i { low = v } ∷ is else record { low = v; high = v } ∷ i ∷ is)
    by true e = (record { above = l; ordered = omega (arith, ints, a.0.above, a.0.ordered); below = a.0.below }, a.1)
    by false e = (
      record { above = l; ordered = omega (arith, ints); below = h },
      (record { above = further v i.low a.0.above (eq_false (v +ℤ pos 1) i.low e); ordered = a.0.ordered; below = a.0.below }, a.1),
    )

runs_apart : (f c : ℤ) (vs : List ℤ) → Ascends f c vs → AreApart f c (runs vs)
runs_apart f c [] a = tt
runs_apart f c (v ∷ vs) a = below_apart f c v (runs vs) a.0 a.1 (runs_apart v c vs a.2)

below-covers : (q v : ℤ) (is : List Interval) → Covers (with_below v is) q → (q ≡ v) ⊎ Covers is q
below-covers q v [] h = elim h [ inl k ↦ inl (omega (arith, ints, k.0, k.1)) | inr n ↦ absurd n ]
below-covers q v (i ∷ is) h = by (int_eq (v +ℤ pos 1) i.low) refl h
  where
    by : (b : Bool) → int_eq (v +ℤ pos 1) i.low ≡ b → Covers (if b then record i { low = v } ∷ is else record { low = v; high = v } ∷ i ∷ is) q → (q ≡ v) ⊎ Covers (i ∷ is) q
    by true e (inl k) = elim (first_or v q k.0) [
      | inl same ↦ inl same
      | inr above ↦ inr (inl (subst (λ z. z ≤ℤ q) (eq_true (v +ℤ pos 1) i.low e) above, k.1))
    ]
    by true e (inr k) = inr (inr k)
    by false e (inl k) = inl (omega (arith, ints, k.0, k.1))
    by false e (inr k) = inr k

covers-below_first : (c q v : ℤ) (is : List Interval) → AreApart v c is → (q ≡ v) ⊎ Covers is q → Covers (with_below v is) q
covers-below_first c q v [] a (inl e) = inl (omega (arith, ints, e), omega (arith, ints, e))
covers-below_first c q v [] a (inr h) = absurd h
covers-below_first c q v (i ∷ is) a h = by (int_eq (v +ℤ pos 1) i.low) refl h
  where
    by : (b : Bool) → int_eq (v +ℤ pos 1) i.low ≡ b → (q ≡ v) ⊎ Covers (i ∷ is) q → Covers (if b then record i { low = v } ∷ is else record { low = v; high = v } ∷ i ∷ is) q
    by true e (inl k) = inl (omega (arith, ints, k), omega (arith, ints, k, a.0.above, a.0.ordered))
    by true e (inr (inl k)) = inl (omega (arith, ints, k.0, a.0.above), k.1)
    by true e (inr (inr k)) = inr k
    by false e (inl k) = inl (omega (arith, ints, k), omega (arith, ints, k))
    by false e (inr k) = inr k

runs-member : (q : ℤ) (vs : List ℤ) → Covers (runs vs) q → Member q vs
runs-member q [] h = absurd h
runs-member q (v ∷ vs) h = elim (below-covers q v (runs vs) h) [ inl e ↦ inl e | inr k ↦ inr (runs-member q vs k) ]

member-runs : (f c q : ℤ) (vs : List ℤ) → Ascends f c vs → Member q vs → Covers (runs vs) q
member-runs f c q [] a h = absurd h
member-runs f c q (v ∷ vs) a (inl e) = covers-below_first c q v (runs vs) (runs_apart v c vs a.2) (inl e)
member-runs f c q (v ∷ vs) a (inr h) = covers-below_first c q v (runs vs) (runs_apart v c vs a.2) (inr (member-runs v c q vs a.2 h))

-- The intervals of a set

member-has : (s : IntSet) (q : ℤ) → Member q (set.items s) → Has s q
member-has s q h = set.contains-items s q ∙ member_any q (set.items s) h

has-member : (s : IntSet) (q : ℤ) → Has s q → Member q (set.items s)
has-member s q h = any_member q (set.items s) (sym (set.contains-items s q) ∙ h)

-- intervals that ascend with gaps between them are those of their integers, within any bounds
pub apart_are : (f c : ℤ) (is : List Interval) (s : IntSet) → union is ≡ s → AreApart f c is → is ≡ intervals_of s
unfolding intervals_of
apart_are f c is s e a =
    let members = set.items s in
    let covered = λ (q : ℤ) (h : Member q members). has-covers is q (subst (λ z. Has z q) (sym e) (member-has s q h)) in
    let ordered : Ascends f c (ascending members) = all_ascend f c members (λ q h. (covers-above f c is q a (covered q h), covers-below f c is q a (covered q h))) in
    canonical f c f c is (runs (ascending members)) a (runs_apart f c (ascending members) ordered)
    (λ q h. member-runs f c q (ascending members) ordered (member-ascending q members (has-member s q (subst (λ z. Has z q) e (covers-has is q h)))))
    (λ q h. covered q (ascending-member q members (runs-member q (ascending members) h)))

pub intervals_are : (is : List Interval) (s : IntSet) → AreIntervals is s → is ≡ intervals_of s
intervals_are is s a = apart_are (LEAST_VALUE -ℤ pos 1) GREATEST_VALUE is s a.all a.apart

-- no value has no interval, and one value has one
pub intervals_none : intervals_of set.empty ≡ []
intervals_none = sym (apart_are (pos 0) (pos 0) [] set.empty refl tt)

pub intervals_single : (v : ℤ) → intervals_of (single v) ≡ record { low = v; high = v } ∷ []
intervals_single v =
    sym (apart_are (v -ℤ pos 1) v (record { low = v; high = v } ∷ []) (single v) (ap (λ n. with_run v n set.empty) (one_long v)) (record { above = omega (arith, ints); ordered = omega (arith, ints); below = omega (arith, ints) }, tt))
  where
    one_long : (v : ℤ) → count v v ≡ 1
    one_long v = let e = count-is v v (omega (arith, ints)) in omega (arith, ints, e)

-- The intervals of any set have its integers

members_ascend : (s : IntSet) → Ascends (least s -ℤ pos 1) (greatest s) (ascending (set.items s))
members_ascend s =
    all_ascend (least s -ℤ pos 1) (greatest s) (set.items s)
    (λ q h. (let low = least-below s q (member-has s q h) in omega (arith, ints, low), greatest-above s q (member-has s q h)))

has-covered : (s : IntSet) (q : ℤ) → Has s q → Covers (intervals_of s) q
unfolding intervals_of
has-covered s q h =
    member-runs (least s -ℤ pos 1) (greatest s) q (ascending (set.items s)) (members_ascend s) (member-ascending q (set.items s) (has-member s q h))

covered-has : (s : IntSet) (q : ℤ) → Covers (intervals_of s) q → Has s q
unfolding intervals_of
covered-has s q h = member-has s q (ascending-member q (set.items s) (runs-member q (ascending (set.items s)) h))

pub union_intervals : (s : IntSet) → union (intervals_of s) ≡ s
union_intervals s =
    same_members (union (intervals_of s)) s
    (λ q h. covered-has s q (has-covers (intervals_of s) q h))
    (λ q h. covers-has (intervals_of s) q (has-covered s q h))

pub within_intervals : (s : IntSet) → is_within (intervals_of s) s ≡ true
within_intervals s = within_true s (intervals_of s) (intervals_of s) (union_intervals s) (λ v e. e)
