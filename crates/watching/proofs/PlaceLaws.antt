-- The first propagator that is due, by candidates that ascend.
use Rattle.std.proofs.Common.{◌≡◌, inl, inr, ℕ, zero, suc, ◌+◌, ◌<◌, ◌≤◌, Bool, true, false, ◌||◌, List, [], ◌∷◌, length, drop, refl, sym, ap, subst, ◌∙◌, arith, Option, Some, None, is_some, slice_get, get_or, add-one}
use Rattle.std.specs.Prelude.{position}
use Rattle.std.specs.List.{list_any}
use Rattle.std.specs.List.Sorted.{IsNonDecreasing}
use Rattle.std.specs.Option.{option_map}
use Rattle.std.proofs.lemmas.Bool.{false≢true}
use Rattle.std.proofs.lemmas.Grind.{common_steps}
use Rattle.std.proofs.Math.Seq.{drop-cons}
use Rattle.std.proofs.lemmas.List.{drop_all}
use Rattle.std.proofs.lemmas.List.Sorted.{IsNonDecreasingBy-drop}
use Rattle.oz_base.specs.Lists.{holds_of}
use Rattle.oz_semantics.specs.Store.{View}
use Rattle.oz_semantics.specs.Propagation.{is_due}
use Rattle.oz_semantics.specs.declared.configuration.Propagator.{Propagator}
use Rattle.oz_laws.proofs.SameLaws.{In, In-from_contains, contains-from_In}
use Rattle.view_laws.proofs.Members.{decide, not_both}
use Rattle.watching.specs.Changes.{is_due_at}
use Rattle.watching.specs.Watching.{HasDue}

position_here : {A : Type 0} (test : A → Bool) (x : A) (xs : List A) → test x ≡ true → position test (x ∷ xs) ≡ Some 0
position_here test x xs e = rw e (grind arith)

position_later : {A : Type 0} (test : A → Bool) (x : A) (xs : List A) → test x ≡ false → position test (x ∷ xs) ≡ option_map (λ n. suc n) (position test xs)
position_later test x xs e = rw e (grind (arith, common_steps))

module _ {A : Type 0} (test : A → Bool) where
  pub nowhere : (xs : List A) → ((i : ℕ) (x : A) → slice_get xs i ≡ Some x → test x ≡ false) → position test xs ≡ None
  nowhere [] none = refl
  nowhere (x ∷ xs) none = position_later test x xs (none 0 x refl) ∙ ap (option_map (λ n. suc n)) (nowhere xs (λ i y at. none (suc i) y at))

  pub there : (xs : List A) (n : ℕ) → holds_of test (slice_get xs n) ≡ true → ((i : ℕ) (x : A) → i < n → slice_get xs i ≡ Some x → test x ≡ false) → position test xs ≡ Some n
  there [] n here none = absurd (false≢true here)
  there (x ∷ xs) zero here none = position_here test x xs here
  there (x ∷ xs) (suc n) here none =
      position_later test x xs (none 0 x (omega arith) refl)
      ∙ ap (option_map (λ n. suc n)) (there xs n here (λ i y lt at. none (suc i) y (omega (arith, lt)) at))

  pub position_any : (xs : List A) → is_some (position test xs) ≡ list_any test xs
  position_any [] = refl
  position_any (x ∷ xs) = by (test x) refl (position_any xs)
    where
      mapped : (o : Option ℕ) → is_some (option_map (λ n. suc n) o) ≡ is_some o
      mapped None = refl
      mapped (Some n) = refl

      by : (b : Bool) → test x ≡ b → is_some (position test xs) ≡ list_any test xs → is_some (position test (x ∷ xs)) ≡ (test x || list_any test xs)
      by true e rest = ap is_some (position_here test x xs e) ∙ ap (λ (b : Bool). b || list_any test xs) (sym e)
      by false e rest = ap is_some (position_later test x xs e) ∙ mapped (position test xs) ∙ rest ∙ ap (λ (b : Bool). b || list_any test xs) (sym e)

below : (xs : List ℕ) (d i : ℕ) → IsNonDecreasing (d ∷ xs) → In i (d ∷ xs) → d ≤ i
below xs d i a (inl e) = omega (arith, e)
below xs d i a (inr h) =
    let c = contains-from_In xs i h in
    let up : d ≤ get_or xs c.0 i = a 0 (suc c.0) i (omega arith) (omega (arith, c.1)) in
    let at : get_or xs c.0 i ≡ i = c.2 in
    omega (arith, up, at)

module _ (view : View) (ps : List Propagator) where
  is_at : (i : ℕ) (p : Propagator) → slice_get ps i ≡ Some p → is_due_at view ps i ≡ is_due view p
  is_at i p at = ap (holds_of (is_due view)) at

  -- the first candidate is due
  pub first_here : (d : ℕ) (rest : List ℕ) → IsNonDecreasing (d ∷ rest) → HasDue view ps (d ∷ rest) → is_due_at view ps d ≡ true → Some d ≡ position (is_due view) ps
  first_here d rest a h e = sym (there (is_due view) ps d e (λ i p lt at. elim (decide (is_due view p)) [
    | inl q ↦ absurd (let le : d ≤ i = below rest d i a (In-from_contains (d ∷ rest) i (h i p at q)) in omega (arith, le, lt))
    | inr q ↦ q
  ]))

  -- or may be dropped
  pub first_not : (d : ℕ) (rest : List ℕ) → HasDue view ps (d ∷ rest) → is_due_at view ps d ≡ false → HasDue view ps rest
  first_not d rest h e i p at q = elim (In-from_contains (d ∷ rest) i (h i p at q)) [
    | inl k ↦ absurd (not_both (is_due view p) q (sym (is_at i p at) ∙ ap (is_due_at view ps) (sym k) ∙ e))
    | inr k ↦ contains-from_In rest i k
  ]

  none_first : HasDue view ps [] → None ≡ position (is_due view) ps
  none_first h = sym (nowhere (is_due view) ps (λ i p at. elim (decide (is_due view p)) [
    | inl q ↦ elim (In-from_contains [] i (h i p at q)) [ ]
    | inr q ↦ q
  ]))

  module _ (due items : List ℕ) (i : ℕ) (e : items ≡ due) where
    module _ (within : i < length items) where
      item : ℕ
      item = get_or due i 0

      item_is : get_or items i 0 ≡ item
      unfolding item
      item_is = ap (λ (xs : List ℕ). get_or xs i 0) e

      split : drop i due ≡ item ∷ drop (suc i) due
      unfolding item
      split = drop-cons due i 0 (subst (λ (xs : List ℕ). i < length xs) e within)

      -- the candidate at the place is the first that is due
      pub first_found : IsNonDecreasing due → HasDue view ps (drop i due) → is_due_at view ps (get_or items i 0) ≡ true → Some (get_or items i 0) ≡ position (is_due view) ps
      first_found a h t =
          ap (λ (d : ℕ). Some d) item_is
          ∙ first_here item (drop (suc i) due) (subst IsNonDecreasing split (IsNonDecreasingBy-drop (λ n. n) i due a)) (subst (HasDue view ps) split h)
          (sym (ap (is_due_at view ps) item_is) ∙ t)

      pub first_passed : HasDue view ps (drop i due) → is_due_at view ps (get_or items i 0) ≡ false → HasDue view ps (drop (i + 1) due)
      first_passed h t =
          subst (λ n. HasDue view ps (drop n due)) (sym (add-one i))
          (first_not item (drop (suc i) due) (subst (HasDue view ps) split h) (sym (ap (is_due_at view ps) item_is) ∙ t))

    pub first_none : length items ≤ i → HasDue view ps (drop i due) → None ≡ position (is_due view) ps
    first_none le h = none_first (subst (HasDue view ps) (drop_all i due (subst (λ (xs : List ℕ). length xs ≤ i) e le)) h)
