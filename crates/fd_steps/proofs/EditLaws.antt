-- The first that passes a test, edited.
use Rattle.std.proofs.Common.{◌≡◌, ◌⊎◌, inl, inr, ℕ, suc, ◌+◌, ◌<◌, ◌≤◌, Bool, true, false, cond, ◌||◌, if◌then◌else◌, List, [], ◌∷◌, ◌++◌, length, Contains, Option, Some, None, refl, sym, ◌∙◌, ap, subst, arith}
use Rattle.std.specs.List.{find, list_any}
use Rattle.oz_base.specs.Lists.{edit_first}
use Rattle.fd_stores.proofs.Lists.{contains_none, contains_cases, contains_head, contains_tail}

module _ {A : Type 0} (test : A → Bool) (f : A → A) where
  -- what is in the edited list was there, or is the one that was found, edited
  pub edited_from : (xs : List A) (y : A) → Contains (edit_first test f xs) y → Contains xs y ⊎ ((x : A) × (find test xs ≡ Some x) × Contains xs x × (f x ≡ y))
  edited_from [] y c = absurd (contains_none y c)
  edited_from (x ∷ xs) y c = by (test x) c (edited_from xs y) where
    by : (b : Bool) → Contains (cond b (f x ∷ xs) (x ∷ edit_first test f xs)) y → (Contains (edit_first test f xs) y → Contains xs y ⊎ ((z : A) × (find test xs ≡ Some z) × Contains xs z × (f z ≡ y)))
        → Contains (x ∷ xs) y ⊎ ((z : A) × ((if b then Some x else find test xs) ≡ Some z) × Contains (x ∷ xs) z × (f z ≡ y))
    by true d again = elim (contains_cases (f x) y xs d) [ inl e ↦ inr (x, refl, contains_head x xs, e) | inr k ↦ inl (contains_tail x y xs k) ]
    by false d again = elim (contains_cases x y (edit_first test f xs) d) [
      | inl e ↦ inl (subst (Contains (x ∷ xs)) e (contains_head x xs))
      | inr k ↦ elim (again k) [ inl g ↦ inl (contains_tail x y xs g) | inr g ↦ inr (g.0, g.1, contains_tail x g.0 xs g.2, g.3) ]
    ]

  -- what was there is still there, or edited
  pub from_edited : (xs : List A) (y : A) → Contains xs y → Contains (edit_first test f xs) y ⊎ Contains (edit_first test f xs) (f y)
  from_edited [] y c = absurd (contains_none y c)
  from_edited (x ∷ xs) y c = by (test x) (contains_cases x y xs c) (from_edited xs y) where
    by : (b : Bool) → (x ≡ y) ⊎ Contains xs y → (Contains xs y → Contains (edit_first test f xs) y ⊎ Contains (edit_first test f xs) (f y))
        → Contains (cond b (f x ∷ xs) (x ∷ edit_first test f xs)) y ⊎ Contains (cond b (f x ∷ xs) (x ∷ edit_first test f xs)) (f y)
    by true (inl e) again = inr (subst (λ z. Contains (f x ∷ xs) (f z)) e (contains_head (f x) xs))
    by true (inr k) again = inl (contains_tail (f x) y xs k)
    by false (inl e) again = inl (subst (Contains (x ∷ edit_first test f xs)) e (contains_head x (edit_first test f xs)))
    by false (inr k) again = elim (again k) [ inl g ↦ inl (contains_tail x y (edit_first test f xs) g) | inr g ↦ inr (contains_tail x (f y) (edit_first test f xs) g) ]

  -- one that is found is there, and passes
  pub found_in : (xs : List A) (y : A) → find test xs ≡ Some y → Contains xs y × (test y ≡ true)
  found_in [] y e = cc
  found_in (x ∷ xs) y e = by (test x) refl e (found_in xs y) where
    by : (b : Bool) → test x ≡ b → (if b then Some x else find test xs) ≡ Some y → (find test xs ≡ Some y → Contains xs y × (test y ≡ true)) → Contains (x ∷ xs) y × (test y ≡ true)
    by true g h again = (let same : x ≡ y = cc in (subst (Contains (x ∷ xs)) same (contains_head x xs), ap test (sym same) ∙ g))
    by false g h again = (let r = again h in (contains_tail x y xs r.0, r.1))

  pub found_any : (xs : List A) (y : A) → find test xs ≡ Some y → list_any test xs ≡ true
  found_any [] y e = cc
  found_any (x ∷ xs) y e = by (test x) e (found_any xs y) where
    by : (b : Bool) → (if b then Some x else find test xs) ≡ Some y → (find test xs ≡ Some y → list_any test xs ≡ true) → (b || list_any test xs) ≡ true
    by true h again = refl
    by false h again = again h

  pub none_any : (xs : List A) → find test xs ≡ None → list_any test xs ≡ false
  none_any [] e = refl
  none_any (x ∷ xs) e = by (test x) e (none_any xs) where
    by : (b : Bool) → (if b then Some x else find test xs) ≡ None → (find test xs ≡ None → list_any test xs ≡ false) → (b || list_any test xs) ≡ false
    by true h again = cc
    by false h again = again h

  pub none_passes : (xs : List A) (y : A) → find test xs ≡ None → Contains xs y → test y ≡ false
  none_passes [] y e c = absurd (contains_none y c)
  none_passes (x ∷ xs) y e c = by (test x) refl e (contains_cases x y xs c) (none_passes xs y) where
    by : (b : Bool) → test x ≡ b → (if b then Some x else find test xs) ≡ None → (x ≡ y) ⊎ Contains xs y → (find test xs ≡ None → Contains xs y → test y ≡ false) → test y ≡ false
    by true g h k again = cc
    by false g h (inl e) again = ap test (sym e) ∙ g
    by false g h (inr k) again = again h k

-- ---- how many pass

abbrev pub one_if : Bool → ℕ
one_if true = 1
one_if false = 0

abbrev pub count : {A : Type 0} → (A → Bool) → List A → ℕ
count test [] = 0
count test (x ∷ xs) = one_if (test x) + count test xs

count_same : {A : Type 0} (test other : A → Bool) (xs : List A) → ((x : A) → Contains xs x → other x ≡ test x) → count other xs ≡ count test xs
count_same test other [] h = refl
count_same test other (x ∷ xs) h = λ i. one_if (h x (contains_head x xs) i) + count_same test other xs (λ y c. h y (contains_tail x y xs c)) i

-- where the one that was found no longer passes, and the others pass as before, fewer pass
pub count_fewer : {A : Type 0} (test other : A → Bool) (f : A → A) (xs : List A) (y : A) → find test xs ≡ Some y → other (f y) ≡ false → ((x : A) → Contains xs x → other x ≡ test x)
    → count other (edit_first test f xs) < count test xs
count_fewer test other f [] y e n h = cc
count_fewer test other f (x ∷ xs) y e n h = by (test x) refl e (λ g. count_fewer test other f xs y g n (λ z c. h z (contains_tail x z xs c))) where
  rest : count other xs ≡ count test xs
  rest = count_same test other xs (λ z c. h z (contains_tail x z xs c))

  by : (b : Bool) → test x ≡ b → (if b then Some x else find test xs) ≡ Some y → (find test xs ≡ Some y → count other (edit_first test f xs) < count test xs)
      → count other (cond b (f x ∷ xs) (x ∷ edit_first test f xs)) < one_if b + count test xs
  by true g k again =
      let same : x ≡ y = cc in
      let zero : one_if (other (f x)) ≡ 0 = ap one_if (ap (λ z. other (f z)) same ∙ n) in
      omega (arith, zero, rest)
  by false g k again =
      let zero : one_if (other x) ≡ 0 = ap one_if (h x (contains_head x xs) ∙ g) in
      omega (arith, zero, again k)
