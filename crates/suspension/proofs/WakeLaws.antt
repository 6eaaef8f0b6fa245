-- How threads are woken.
use Rattle.std.proofs.Common.{◌≡◌, ◌⊎◌, inl, inr, ℕ, ◌==◌, false, List, [], ◌∷◌, ◌++◌, sym, subst, Contains, Some, None, Result, Ok, Err, OnOk}
use Rattle.std.specs.List.{list_any}
use Rattle.std.specs.List.Sorted.{IsStrictlyIncreasing}
use Rattle.std.proofs.lemmas.List.Elements.{Contains-push, Contains-push_cases, Contains-append_left, Contains-append_right, Contains-append_cases}
use Rattle.oz_base.specs.Names.{ident_eq}
use Rattle.oz_base.specs.declared.names.Ident.{Ident}
use Rattle.oz_semantics.specs.Store.{View, Same, reversed, joined}
use Rattle.oz_laws.specs.Touched.{Meets}
use Rattle.oz_laws.proofs.SameLaws.{eq-true, eq-refl, ident_eq-true}
use Rattle.view_laws.proofs.Members.{decide, not_both, some_of, by_some}
use Rattle.suspension.specs.Changes.{AreListed, Finds, Leaves, Tidies, Waking}
use Rattle.suspension.specs.Sleeping.{numbers_at, IsKey, AreKeys, Wakes, KeysStay, FoundStays}
use Rattle.suspension.specs.declared.sleepers.Sleepers.{Sleepers}
use Rattle.suspension.proofs.KeyLaws.{nothing_in, is_key_of, set_here, set_other, meets_left}

-- a number stands in a list, or not
stands : (xs : List ℕ) (n : ℕ) → Contains xs n ⊎ (Contains xs n → ⊥)
stands xs n = elim (decide (list_any (λ m. m == n) xs)) [
  | inl e ↦ (let m = some_of (λ m. m == n) xs e in inl (subst (Contains xs) (eq-true m.0 n m.2) m.1))
  | inr e ↦ inr (λ c. not_both (list_any (λ m. m == n) xs) (by_some (λ m. m == n) xs n c (eq-refl n)) e)
]

pub waking_none : (view : View) (s : Sleepers) → AreKeys view s → Waking view [] s s []
waking_none view s a = record {
  sleeps = λ k n c. inr c;
  fewer = λ k n c. c;
  untouched = λ k h m. nothing_in m.0 m.1;
  only = λ n c. nothing_in n c;
  listed = a.listed;
}

module _ (view : View) (done : List Ident) (x : Ident) (old : Sleepers) (a : AreKeys view old) (before : Sleepers) (woken : List ℕ) (w : Waking view done old before woken) where
  -- no key is equal to the variable
  pub waking_still : Finds view before x None → Waking view (done ++ x ∷ []) old before woken
  waking_still f = record {
    sleeps = w.sleeps;
    fewer = w.fewer;
    untouched = λ k h m. elim (Contains-push_cases done x m.0 m.1) [
      | inl c ↦ w.untouched k h (m.0, c, m.2)
      | inr q ↦ f w.listed k h (reversed (subst (Same view k) (sym q) m.2))
    ];
    only = λ n c. (let k = w.only n c in (k.0, meets_left view done (x ∷ []) k.0 k.1, k.2));
    listed = w.listed;
  }

  -- one is, and was taken out
  module _ (key : Ident) (f : Finds view before x (Some key)) (after : Sleepers) (l : Leaves key before after)
      (more : List ℕ) (e : more ≡ woken ++ numbers_at before key) where
    was_key : IsKey before key
    was_key = is_key_of before key f.0

    empty : (n : ℕ) → Contains (numbers_at after key) n → ⊥
    empty n c = nothing_in n (subst (λ (xs : List ℕ). Contains xs n) (set_here before after key [] l.lists) c)

    other : (k : Ident) (n : ℕ) → Contains (numbers_at after k) n → ident_eq k key ≡ false
    other k n c = elim (decide (ident_eq k key)) [
      | inl q ↦ absurd (empty n (subst (λ z. Contains (numbers_at after z) n) (ident_eq-true k key q) c))
      | inr q ↦ q
    ]

    still : (k : Ident) (n : ℕ) → Contains (numbers_at after k) n → Contains (numbers_at before k) n
    still k n c = subst (λ (xs : List ℕ). Contains xs n) (set_other before after key [] l.lists k (other k n c)) c

    pub waking_more : Waking view (done ++ x ∷ []) old after more
    waking_more = record {
      sleeps = λ k n c. elim (w.sleeps k n c) [
        | inl h ↦ inl (subst (λ (xs : List ℕ). Contains xs n) (sym e) (Contains-append_left woken (numbers_at before key) n h))
        | inr h ↦ elim (decide (ident_eq k key)) [
          | inl q ↦ inl (subst (λ (xs : List ℕ). Contains xs n) (sym e)
              (Contains-append_right woken (numbers_at before key) n (subst (λ z. Contains (numbers_at before z) n) (ident_eq-true k key q) h)))
          | inr q ↦ inr (subst (λ (xs : List ℕ). Contains xs n) (sym (set_other before after key [] l.lists k q)) h)
        ]
      ];
      fewer = λ k n c. w.fewer k n (still k n c);
      untouched = λ k h m. elim (Contains-push_cases done x m.0 m.1) [
        | inl c ↦ w.untouched k (h.0, still k h.0 h.1) (m.0, c, m.2)
        | inr q ↦ (let s : Same view k key = joined (subst (Same view k) (sym q) m.2) f.1 in
            let p : k ≡ key = a.apart k key (h.0, w.fewer k h.0 (still k h.0 h.1)) (was_key.0, w.fewer key was_key.0 was_key.1) s in
            empty h.0 (subst (λ z. Contains (numbers_at after z) h.0) p h.1))
      ];
      only = λ n c. elim (Contains-append_cases woken (numbers_at before key) n (subst (λ (xs : List ℕ). Contains xs n) e c)) [
        | inl h ↦ (let k = w.only n h in (k.0, meets_left view done (x ∷ []) k.0 k.1, k.2))
        | inr h ↦ (key, (x, Contains-push done x, reversed f.1), w.fewer key n h)
      ];
      listed = λ k h. subst (λ (xs : List Ident). Contains xs k) (sym l.variables) (w.listed k (h.0, still k h.0 h.1));
    }

-- at the end
module _ (view : View) (touched : List Ident) (old : Sleepers) (a : AreKeys view old) (middle : Sleepers) (numbers : List ℕ) (w : Waking view touched old middle numbers)
    (new : Sleepers) (t : AreListed middle → Tidies middle new) (woken : List ℕ) (up : IsStrictlyIncreasing woken)
    (all : (n : ℕ) → Contains numbers n → Contains woken n) (only : (n : ℕ) → Contains woken n → Contains numbers n) where
  tidy : Tidies middle new
  tidy = t w.listed

  back : (k : Ident) (n : ℕ) → Contains (numbers_at new k) n → Contains (numbers_at old k) n
  back k n c = w.fewer k n (tidy.only k n c)

  key_back : (k : Ident) → IsKey new k → IsKey old k
  key_back k h = (h.0, back k h.0 h.1)

  untouched : (k : Ident) → IsKey new k → Meets view touched k → ⊥
  untouched k h m = w.untouched k (h.0, tidy.only k h.0 h.1) m

  pub wakes : Wakes view touched old new woken
  wakes = record {
    ascends = up;
    sleeps = λ n ys f. elim (stands woken n) [
      | inl c ↦ inl c
      | inr none ↦ (let left : (k : Ident) → Contains (numbers_at old k) n → Contains (numbers_at new k) n =
          λ k c. elim (w.sleeps k n c) [ inl h ↦ absurd (none (all n h)) | inr h ↦ tidy.kept k n h ] in
          inr (
            λ y c. (let k = f y c in (k.0, k.1, left k.0 k.2)),
            λ y c m. (let k = f y c in untouched k.0 (n, left k.0 k.2) (m.0, m.1, joined (reversed k.1) m.2)),
          ))
    ];
    keys = record {
      apart = λ k l hk hl s. a.apart k l (key_back k hk) (key_back l hl) s;
      listed = tidy.listed;
    };
    untouched = untouched;
    only = λ n c. (let k = w.only n (only n c) in
        (k.1.0, k.1.1, (k.0, reversed k.1.2, k.2)));
    fewer = λ y n f. (f.0, f.1, back f.0 n f.2);
  }

-- Where more is told

pub keys_stay : KeysStay
keys_stay before more touched s t none a = record {
  apart = λ k l hk hl e. elim (t.joins k l e) [ inl b ↦ a.apart k l hk hl b | inr m ↦ absurd (none k hk m) ];
  listed = a.listed;
}

pub found_stays : FoundStays
found_stays before after s n xs later f x c = let k = f x c in (k.0, later x k.0 k.1, k.2)

-- Results

pub on_ok_both : {T E : Type 0} (P Q R : Type 0) (r : Result T E) → (P → Q → R) → OnOk r P → OnOk r Q → OnOk r R
on_ok_both P Q R (Ok a) f p q = f p q
on_ok_both P Q R (Err e) f p q = p
