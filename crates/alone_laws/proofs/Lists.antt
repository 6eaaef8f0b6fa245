-- Lists with some items left out, and tests of their items.
use Rattle.std.proofs.Common.{◌≡◌, inl, inr, Bool, true, false, ◌&&◌, ◌||◌, List, [], ◌∷◌, ◌++◌, filter, map, flat_map, cond, refl, ap, ap₂}
use Rattle.std.specs.List.{list_all, list_any, fold}
use Rattle.oz_base.specs.Lists.{edit_first, put_before}
use Rattle.oz_laws.proofs.SameLaws.{In, and-left, and-right}
use Rattle.view_laws.proofs.Members.{and_both}

module _ {A : Type 0} where
  -- one that is put in and left out
  pub put_out : (keep before : A → Bool) (x : A) (xs : List A) → keep x ≡ false → filter keep (put_before before x xs) ≡ filter keep xs
  put_out keep before x [] k = rw k refl
  put_out keep before x (y ∷ ys) k = by (before y) refl (put_out keep before x ys k)
    where
      by : (b : Bool) → before y ≡ b → filter keep (put_before before x ys) ≡ filter keep ys → filter keep (put_before before x (y ∷ ys)) ≡ filter keep (y ∷ ys)
      by true e rest = rw (e, k) refl
      by false e rest = rw e (ap (λ zs. cond (keep y) (y ∷ zs) zs) rest)

  -- a change of all items that leaves those as they are that are left in
  pub map_out : (keep : A → Bool) (change : A → A) → ((x : A) → keep (change x) ≡ keep x) → (xs : List A) → ((x : A) → In x xs → keep x ≡ true → change x ≡ x)
      → filter keep (map change xs) ≡ filter keep xs
  map_out keep change same [] h = refl
  map_out keep change same (y ∷ ys) h = by (keep y) refl (map_out keep change same ys (λ x i. h x (inr i)))
    where
      by : (b : Bool) → keep y ≡ b → filter keep (map change ys) ≡ filter keep ys → filter keep (map change (y ∷ ys)) ≡ filter keep (y ∷ ys)
      by true k rest = rw (same y, k) (ap₂ (λ z zs. z ∷ zs) (h y (inl refl) k) rest)
      by false k rest = rw (same y, k) rest

  -- tests that agree on the items that are left in
  pub any_filtered : (keep p q : A → Bool) → ((x : A) → keep x ≡ true → p x ≡ q x) → (xs : List A) → list_any p (filter keep xs) ≡ list_any q (filter keep xs)
  any_filtered keep p q h [] = refl
  any_filtered keep p q h (x ∷ xs) = by (keep x) refl (any_filtered keep p q h xs)
    where
      by : (b : Bool) → keep x ≡ b → list_any p (filter keep xs) ≡ list_any q (filter keep xs) → list_any p (filter keep (x ∷ xs)) ≡ list_any q (filter keep (x ∷ xs))
      by true k rest = rw k (ap₂ (λ a b. a || b) (h x k) rest)
      by false k rest = rw k rest

  pub all_by : (p q : A → Bool) → ((x : A) → p x ≡ true → q x ≡ true) → (xs : List A) → list_all p xs ≡ true → list_all q xs ≡ true
  all_by p q h [] e = refl
  all_by p q h (x ∷ xs) e = and_both _ _ (h x (and-left _ _ e)) (all_by p q h xs (and-right _ _ e))

  pub all_edited : (p test : A → Bool) (f : A → A) → ((x : A) → p (f x) ≡ p x) → (xs : List A) → list_all p (edit_first test f xs) ≡ list_all p xs
  all_edited p test f h [] = refl
  all_edited p test f h (x ∷ xs) = by (test x) refl (all_edited p test f h xs)
    where
      by : (b : Bool) → test x ≡ b → list_all p (edit_first test f xs) ≡ list_all p xs → list_all p (edit_first test f (x ∷ xs)) ≡ list_all p (x ∷ xs)
      by true e rest = rw (e, h x) refl
      by false e rest = rw e (ap (λ b. p x && b) rest)

  pub all_filtered : (p keep : A → Bool) (xs : List A) → list_all p xs ≡ true → list_all p (filter keep xs) ≡ true
  all_filtered p keep [] e = refl
  all_filtered p keep (x ∷ xs) e = by (keep x) refl (all_filtered p keep xs (and-right _ _ e))
    where
      by : (b : Bool) → keep x ≡ b → list_all p (filter keep xs) ≡ true → list_all p (filter keep (x ∷ xs)) ≡ true
      by true k rest = rw k (and_both _ _ (and-left _ _ e) rest)
      by false k rest = rw k rest

  pub all_put : (p before : A → Bool) (x : A) → p x ≡ true → (xs : List A) → list_all p xs ≡ true → list_all p (put_before before x xs) ≡ true
  all_put p before x h [] e = rw h refl
  all_put p before x h (y ∷ ys) e = by (before y) refl (all_put p before x h ys (and-right _ _ e))
    where
      by : (b : Bool) → before y ≡ b → list_all p (put_before before x ys) ≡ true → list_all p (put_before before x (y ∷ ys)) ≡ true
      by true k rest = rw (k, h) e
      by false k rest = rw k (and_both _ _ (and-left _ _ e) rest)

module _ {A B : Type 0} where
  -- what the items give that are left in, where the others give nothing
  pub flat_out : (keep : A → Bool) (give : A → List B) → ((x : A) → keep x ≡ false → give x ≡ []) → (xs : List A) → flat_map give (filter keep xs) ≡ flat_map give xs
  flat_out keep give h [] = refl
  flat_out keep give h (y ∷ ys) = by (keep y) refl (flat_out keep give h ys)
    where
      by : (b : Bool) → keep y ≡ b → flat_map give (filter keep ys) ≡ flat_map give ys → flat_map give (filter keep (y ∷ ys)) ≡ flat_map give (y ∷ ys)
      by true k rest = rw k (ap (λ zs. give y ++ zs) rest)
      by false k rest = rw (k, h y k) rest

  pub all_mapped : (p : B → Bool) (f : A → B) (xs : List A) → list_all p (map f xs) ≡ list_all (λ x. p (f x)) xs
  all_mapped p f [] = refl
  all_mapped p f (x ∷ xs) = ap (λ b. p (f x) && b) (all_mapped p f xs)

  -- a fact that each of many steps keeps
  pub fold_keeps : (N : A → Type 0) (step : A → B → A) (bs : List B) → ((a : A) (b : B) → In b bs → N a → N (step a b)) → (a : A) → N a → N (fold step a bs)
  fold_keeps N step [] h a n = n
  fold_keeps N step (b ∷ bs) h a n = fold_keeps N step bs (λ c d i. h c d (inr i)) (step a b) (h a b (inl refl) n)
