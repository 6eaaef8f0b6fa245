-- A path goes out of a list, wherever it stands.
use Rattle.std.proofs.Common.{◌≡◌, ℕ, zero, suc, ◌<◌, ◌≤◌, Bool, true, false, not, ◌&&◌, ◌||◌, List, [], ◌∷◌, take, length, slice_get, slice_index_or, Some, refl, ap, sym, ◌∙◌, arith}
use Rattle.std.specs.List.{list_any, remove}
use Rattle.std.specs.Ordering.{eq_by_cmp}
use Rattle.std.proofs.lemmas.Bool.{both_ways}
use Rattle.oz_search.specs.Searches.{Search}
use Rattle.oz_search.specs.Paths.{path_cmp, same_path}
use Rattle.search_law.proofs.Settings.{Setting}
use Rattle.search_law.proofs.Booleans.{or_false}
use Rattle.search_law.proofs.Places.{same_is, is_same}
use Rattle.pool_state.proofs.Keeping.{eq_same}

or_swap : (a b c : Bool) → (a || (b || c)) ≡ (b || (a || c))
or_swap true true c = refl
or_swap true false c = refl
or_swap false b c = refl

and_true : (b : Bool) → (b && true) ≡ b
and_true true = refl
and_true false = refl

without : (s a b : Bool) → a ≡ (s || b) → (b && not s) ≡ (a && not s)
without true true true e = refl
without true true false e = refl
without true false b e = absurd (cc (e))
without false a b e = ap (λ c. c && true) (sym e)

module _ {A : Type 0} where
  pub at_index : (xs : List A) (i : ℕ) (x : A) → i < length xs → x ≡ slice_index_or xs i x → slice_get xs i ≡ Some x
  at_index [] i x here is = absurd (omega (arith, here))
  at_index (y ∷ xs) zero x here is = ap (λ (z : A). Some z) (sym is)
  at_index (y ∷ xs) (suc i) x here is = at_index xs i x (omega (arith, here)) is

  take_remove : (xs : List A) (i : ℕ) → take i (remove xs i) ≡ take i xs
  take_remove [] zero = refl
  take_remove [] (suc i) = refl
  take_remove (x ∷ xs) zero = refl
  take_remove (x ∷ xs) (suc i) = ap (λ ys. x ∷ ys) (take_remove xs i)

  take_all : (xs : List A) (i : ℕ) → length xs ≤ i → take i xs ≡ xs
  take_all [] zero l = refl
  take_all [] (suc i) l = refl
  take_all (x ∷ xs) zero l = absurd (omega (arith, l))
  take_all (x ∷ xs) (suc i) l = ap (λ ys. x ∷ ys) (take_all xs i (omega (arith, l)))

  any_remove : (f : A → Bool) (xs : List A) (i : ℕ) (x : A) → slice_get xs i ≡ Some x → list_any f xs ≡ (f x || list_any f (remove xs i))
  any_remove f [] i x is = absurd (cc (is))
  any_remove f (y ∷ xs) zero x is = let e : y ≡ x = cc (is) in ap (λ z. f z || list_any f xs) e
  any_remove f (y ∷ xs) (suc i) x is = ap (λ b. f y || b) (any_remove f xs i x is) ∙ or_swap (f y) (f x) (list_any f (remove xs i))

  any_take : (f : A → Bool) (xs : List A) (i : ℕ) (x : A) → slice_get xs i ≡ Some x → list_any f (take (suc i) xs) ≡ (list_any f (take i xs) || f x)
  any_take f [] i x is = absurd (cc (is))
  any_take f (y ∷ xs) zero x is = let e : y ≡ x = cc (is) in ap (λ z. f z || false) e ∙ or_false (f x)
  any_take f (y ∷ xs) (suc i) x is = ap (λ b. f y || b) (any_take f xs i x is) ∙ or_assoc (f y) (list_any f (take i xs)) (f x)
    where
      or_assoc : (a b c : Bool) → (a || (b || c)) ≡ ((a || b) || c)
      or_assoc true b c = refl
      or_assoc false b c = refl

module _ {B L : Type 0} (its : Setting B L) where
  abbrev k : Search B L
  k = its.k

  module _ (xs : List (List B)) (i : ℕ) (x p : List B) (r : Bool) (is : slice_get xs i ≡ Some x) (test : r ≡ eq_by_cmp (path_cmp k) x p) where
    tested : r ≡ same_path k x p
    tested = test ∙ eq_same its x p

    -- it is p, and goes out
    pub removed_same : r ≡ true → (q : List B) → (list_any (same_path k q) (remove xs i) && not (same_path k q p)) ≡ (list_any (same_path k q) xs && not (same_path k q p))
    removed_same hit q =
        let here : x ≡ p = same_is its x p (sym tested ∙ hit) in
        without (same_path k q p) (list_any (same_path k q) xs) (list_any (same_path k q) (remove xs i))
        (any_remove (same_path k q) xs i x is ∙ ap (λ z. same_path k q z || list_any (same_path k q) (remove xs i)) here)

    pub removed_clear : list_any (same_path k p) (take i xs) ≡ false → list_any (same_path k p) (take i (remove xs i)) ≡ false
    removed_clear clear = ap (list_any (same_path k p)) (take_remove xs i) ∙ clear

    -- it is another one, and stays
    pub kept_clear : r ≡ false → list_any (same_path k p) (take i xs) ≡ false → list_any (same_path k p) (take (suc i) xs) ≡ false
    kept_clear miss clear =
        let apart : same_path k p x ≡ false = false_at (same_path k p x) refl in
        any_take (same_path k p) xs i x is ∙ rw (clear, apart) refl
      where
        false_at : (b : Bool) → same_path k p x ≡ b → b ≡ false
        false_at true e = absurd (both_ways (same_path k x p) (sym tested ∙ miss) (is_same its x p (sym (same_is its p x e))))
        false_at false e = refl

  -- at the end
  pub all_removed : (xs : List (List B)) (i : ℕ) (p : List B) → length xs ≤ i → list_any (same_path k p) (take i xs) ≡ false → (q : List B) → list_any (same_path k q) xs ≡ (list_any (same_path k q) xs && not (same_path k q p))
  all_removed xs i p end clear q = by (same_path k q p) refl
    where
      none : list_any (same_path k p) xs ≡ false
      none = ap (list_any (same_path k p)) (sym (take_all xs i end)) ∙ clear

      by : (s : Bool) → same_path k q p ≡ s → list_any (same_path k q) xs ≡ (list_any (same_path k q) xs && not s)
      by true e = let gone : list_any (same_path k q) xs ≡ false = rw (same_is its q p e) none in rw gone refl
      by false e = sym (and_true (list_any (same_path k q) xs))
