-- What domains have in common, and when they have an integer.
use Rattle.std.proofs.Common.{◌≡◌, ℕ, ℤ, ◌==◌, not, Bool, true, false, List, [], ◌∷◌, length, Option, Some, None, Contains, fold, refl, sym, ap, subst, arith, ◌∙◌, inl, inr}
use Rattle.std.proofs.lemmas.Bool.{false≢true}
use Rattle.std.specs.List.{filter_map, cons_option}
use Rattle.std.specs.Cmp.{int_cmp_total}
use Rattle.std.specs.FinSet as set
use Rattle.oz_base.specs.declared.interval.Interval.{Interval}
use Rattle.oz_domains.specs.Domains.{IntSet, Has, union, among, is_within}
use Rattle.oz_semantics.specs.Store.{common}
use Rattle.fd_domain.proofs.SetLaws.{has-empty, same_members, has-item, item-has, and_left, and_right, and_both, has_retain-has, has_retain-passes, retain_has}
use Rattle.fd_domain.proofs.IntervalLaws.{contains-is}
use Rattle.oz_laws.proofs.SameLaws.{In, eq-true}

-- Lists of what is given

pub in_given : {A B : Type 0} (f : A → Option B) (xs : List A) (x : A) (y : B) → In x xs → f x ≡ Some y → In y (filter_map f xs)
in_given f [] x y h e = elim h [ ]
in_given f (z ∷ xs) x y (inl h) e = rw (ap f h ∙ e) (inl refl)
in_given f (z ∷ xs) x y (inr h) e = by (f z) (in_given f xs x y h e)
  where
    by : (o : Option _) → In y (filter_map f xs) → In y (cons_option o (filter_map f xs))
    by None k = k
    by (Some w) k = inr k

pub given_in : {A B : Type 0} (f : A → Option B) (xs : List A) (y : B) → In y (filter_map f xs) → (x : A) × In x xs × (f x ≡ Some y)
given_in f [] y h = elim h [ ]
given_in {A} {B} f (z ∷ xs) y h = by (f z) refl (given_in f xs y) h
  where
    by : (o : Option B) → f z ≡ o → (In y (filter_map f xs) → (x : A) × In x xs × (f x ≡ Some y)) → In y (cons_option o (filter_map f xs)) → (x : A) × In x (z ∷ xs) × (f x ≡ Some y)
    by None e rest k = let r = rest k in (r.0, inr r.1, r.2)
    by (Some w) e rest (inl k) = (z, inl refl, e ∙ ap (λ (v : B). Some v) k)
    by (Some w) e rest (inr k) = let r = rest k in (r.0, inr r.1, r.2)

-- What sets have in common

pub meet-has : (s t : IntSet) (n : ℤ) → Has (set.intersection s t) n → Has s n × Has t n
meet-has s t n h = let e = sym (set.contains-intersection int_cmp_total s t n) ∙ h in (and_left _ _ e, and_right (set.contains s n) _ e)

pub has-meet : (s t : IntSet) (n : ℤ) → Has s n → Has t n → Has (set.intersection s t) n
has-meet s t n h k = set.contains-intersection int_cmp_total s t n ∙ and_both _ _ h k

-- each of these sets has the integer
abbrev pub AllHave : List IntSet → ℤ → Type 0
AllHave ss n = (t : IntSet) → In t ss → Has t n

folded-has : (s : IntSet) (ss : List IntSet) (n : ℤ) → Has (fold set.intersection s ss) n → Has s n × AllHave ss n
folded-has s [] n h = (h, λ t k. elim k [ ])
folded-has s (u ∷ us) n h =
    let r = folded-has (set.intersection s u) us n h in
    let m = meet-has s u n r.0 in
    (m.0, λ t k. elim k [ inl e ↦ subst (λ z. Has z n) e m.1 | inr i ↦ r.1 t i ])

has-folded : (s : IntSet) (ss : List IntSet) (n : ℤ) → Has s n → AllHave ss n → Has (fold set.intersection s ss) n
has-folded s [] n h k = h
has-folded s (u ∷ us) n h k = has-folded (set.intersection s u) us n (has-meet s u n h (k u (inl refl))) (λ t i. k t (inr i))

pub common-has : (ss : List IntSet) (s : IntSet) (n : ℤ) → common ss ≡ Some s → Has s n → AllHave ss n
common-has [] s n e h = cc
common-has (u ∷ us) s n e h =
    let same : fold set.intersection u us ≡ s = cc in
    let r = folded-has u us n (subst (λ z. Has z n) (sym same) h) in
    λ t k. elim k [ inl i ↦ subst (λ z. Has z n) i r.0 | inr i ↦ r.1 t i ]

pub has-common : (ss : List IntSet) (s : IntSet) (n : ℤ) → common ss ≡ Some s → AllHave ss n → Has s n
has-common [] s n e h = cc
has-common (u ∷ us) s n e h =
    let same : fold set.intersection u us ≡ s = cc in
    subst (λ z. Has z n) same (has-folded u us n (h u (inl refl)) (λ t i. h t (inr i)))

pub common-some : (ss : List IntSet) (t : IntSet) → In t ss → (s : IntSet) × (common ss ≡ Some s)
common-some [] t h = elim h [ ]
common-some (u ∷ us) t h = (fold set.intersection u us, refl)

-- Sets with an integer

pub has_some : (s : IntSet) → not (set.len s == 0) ≡ true → (n : ℤ) × Has s n
has_some s e = by (set.items s) refl
  where
    none : (xs : List ℤ) → set.items s ≡ xs → length xs ≡ 0 → (n : ℤ) → Has s n → ⊥
    none xs q l n h = let c = subst (λ z. Contains z n) q (has-item s n h) in omega (arith, c.1, l)

    by : (xs : List ℤ) → set.items s ≡ xs → (n : ℤ) × Has s n
    by [] q =
        let same : s ≡ set.empty = same_members s set.empty (λ n h. absurd (none [] q refl n h)) (λ n h. absurd (has-empty n h)) in
        absurd (false≢true (sym (ap (λ (z : IntSet). not (set.len z == 0)) same ∙ ap (λ (k : ℕ). not (k == 0)) (set.len-empty _)) ∙ e))
    by (x ∷ xs) q = (x, item-has s x (subst (λ z. Contains z x) (sym q) (0, omega arith, refl)))

pub some_has : (s : IntSet) (n : ℤ) → Has s n → not (set.len s == 0) ≡ true
some_has s n h = by (set.len s == 0) refl
  where
    by : (b : Bool) → (set.len s == 0) ≡ b → not b ≡ true
    by true e = absurd (has-empty n (subst (λ z. Has z n) (set.empty_of_len s (eq-true (set.len s) 0 e)) h))
    by false e = refl

-- Intervals

pub among-is : (is : List Interval) (n : ℤ) → among is n ≡ set.contains (union is) n
among-is is n = sym (contains-is is n)

pub within-among : (is : List Interval) (s : IntSet) → is_within is s ≡ true → (n : ℤ) → Has s n → among is n ≡ true
within-among is s e n h = by (among is n) refl
  where
    by : (b : Bool) → among is n ≡ b → b ≡ true
    by true q = refl
    by false q =
        let out : Has (set.retain s (λ v. not (among is v))) n = retain_has s (λ v. not (among is v)) n h (ap not q) in
        absurd (has-empty n (subst (λ z. Has z n) (set.empty_of_len (set.retain s (λ v. not (among is v))) (eq-true (set.len (set.retain s (λ v. not (among is v)))) 0 e)) out))

pub among-within : (is : List Interval) (s : IntSet) → ((n : ℤ) → Has s n → among is n ≡ true) → is_within is s ≡ true
among-within is s h =
    let none : set.retain s (λ v. not (among is v)) ≡ set.empty =
    same_members (set.retain s (λ v. not (among is v))) set.empty
    (λ n k. absurd (false≢true (sym (ap not (h n (has_retain-has s (λ v. not (among is v)) n k))) ∙ has_retain-passes s (λ v. not (among is v)) n k)))
    (λ n k. absurd (has-empty n k)) in
    ap (λ (z : IntSet). set.len z == 0) none ∙ ap (λ (k : ℕ). k == 0) (set.len-empty _)
