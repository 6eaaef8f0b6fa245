-- Tests of layers and of threads, place by place.
use Rattle.std.proofs.Common.{◌≡◌, ℕ, suc, ◌+◌, ◌-◌, ◌<◌, ◌≤◌, take, ◌||◌, Bool, true, false, List, [], ◌∷◌, map, drop, get_or, length, Some, refl, sym, ap, ◌∙◌, arith}
use Rattle.std.specs.Prelude.{slice_get}
use Rattle.std.specs.List.{list_any, flat_map}
use Rattle.std.proofs.lemmas.List.{drop_all}
use Rattle.std.proofs.lemmas.Option.{get_or_from_slice_get}
use Rattle.std.proofs.lemmas.List.Folds.{list_any-append}
use Rattle.stability.proofs.PlaceLaws.{item_at, rest_at}

module _ {A : Type 0} where
  pub any_step : (test : A → Bool) (x : A) (xs : List A) (b : Bool) → test x ≡ b → list_any test (x ∷ xs) ≡ (b || list_any test xs)
  any_step test x xs b e = ap (λ b. b || list_any test xs) e

  -- where the item at a place passes
  pub any_found : (test : A → Bool) (xs : List A) (i : ℕ) (whole : Bool) → i < length xs → list_any test (drop i xs) ≡ whole
      → ((x : A) → slice_get xs i ≡ Some x → true ≡ test x) → true ≡ whole
  any_found test xs i whole h e passes =
      let item = item_at xs i h in
      sym (any_step test item.0 (drop (i + 1) xs) true (sym (passes item.0 item.1))) ∙ ap (list_any test) (sym (rest_at xs i item.0 item.1)) ∙ e

  -- where it does not
  pub any_left : (test : A → Bool) (xs : List A) (i : ℕ) (whole : Bool) → i < length xs → list_any test (drop i xs) ≡ whole
      → ((x : A) → slice_get xs i ≡ Some x → false ≡ test x) → list_any test (drop (i + 1) xs) ≡ whole
  any_left test xs i whole h e passes =
      let item = item_at xs i h in
      sym (any_step test item.0 (drop (i + 1) xs) false (sym (passes item.0 item.1))) ∙ ap (list_any test) (sym (rest_at xs i item.0 item.1)) ∙ e

  -- the same where an item is read
  pub read_found : (test : A → Bool) (xs : List A) (i : ℕ) (x : A) (whole : Bool) → i < length xs → x ≡ get_or xs i x → list_any test (drop i xs) ≡ whole → true ≡ test x → true ≡ whole
  read_found test xs i x whole h here e passes =
      any_found test xs i whole h e (λ y k. passes ∙ ap test (here ∙ get_or_from_slice_get xs i y x k))

  pub read_left : (test : A → Bool) (xs : List A) (i : ℕ) (x : A) (whole : Bool) → i < length xs → x ≡ get_or xs i x → list_any test (drop i xs) ≡ whole → false ≡ test x → list_any test (drop (i + 1) xs) ≡ whole
  read_left test xs i x whole h here e passes =
      any_left test xs i whole h e (λ y k. passes ∙ ap test (here ∙ get_or_from_slice_get xs i y x k))

  -- where all are passed
  pub any_end : (test : A → Bool) (xs : List A) (i : ℕ) (whole : Bool) → length xs ≡ i → list_any test (drop i xs) ≡ whole → false ≡ whole
  any_end test xs i whole h e = ap (list_any test) (sym (drop_all i xs (omega (arith, h)))) ∙ e

module _ {A B : Type 0} where
  pub any-map : (test : B → Bool) (f : A → B) (xs : List A) → list_any test (map f xs) ≡ list_any (λ x. test (f x)) xs
  any-map test f [] = refl
  any-map test f (x ∷ xs) = ap (λ b. test (f x) || b) (any-map test f xs)

  pub any-flat_map : (test : B → Bool) (f : A → List B) (xs : List A) → list_any test (flat_map f xs) ≡ list_any (λ x. list_any test (f x)) xs
  any-flat_map test f [] = refl
  any-flat_map test f (x ∷ xs) = list_any-append test (f x) (flat_map f xs) ∙ ap (λ b. list_any test (f x) || b) (any-flat_map test f xs)

-- From one place to another

module _ {A : Type 0} where
  abbrev pub between : List A → ℕ → ℕ → List A
  between xs i j = take (j - i) (drop i xs)

  between_step : (xs : List A) (i j : ℕ) (x : A) → i < j → slice_get xs i ≡ Some x → between xs i j ≡ x ∷ between xs (i + 1) j
  between_step xs i j x h e =
      let count : j - i ≡ suc (j - (i + 1)) = omega arith in
      ap (λ n. take n (drop i xs)) count ∙ ap (take (suc (j - (i + 1)))) (rest_at xs i x e)

  between_none : (xs : List A) (i j : ℕ) → j ≡ i → between xs i j ≡ []
  between_none xs i j h = let count : j - i ≡ 0 = omega arith in ap (λ n. take n (drop i xs)) count

  -- where the item at a place passes, where it does not, and where all are passed
  pub part_found : (test : A → Bool) (xs : List A) (i j : ℕ) (whole : Bool) → i < j → j ≤ length xs → list_any test (between xs i j) ≡ whole
      → ((x : A) → slice_get xs i ≡ Some x → true ≡ test x) → true ≡ whole
  part_found test xs i j whole h w e passes =
      let item = item_at xs i (omega (arith, h, w)) in
      sym (any_step test item.0 (between xs (i + 1) j) true (sym (passes item.0 item.1))) ∙ ap (list_any test) (sym (between_step xs i j item.0 h item.1)) ∙ e

  pub part_left : (test : A → Bool) (xs : List A) (i j : ℕ) (whole : Bool) → i < j → j ≤ length xs → list_any test (between xs i j) ≡ whole
      → ((x : A) → slice_get xs i ≡ Some x → false ≡ test x) → list_any test (between xs (i + 1) j) ≡ whole
  part_left test xs i j whole h w e passes =
      let item = item_at xs i (omega (arith, h, w)) in
      sym (any_step test item.0 (between xs (i + 1) j) false (sym (passes item.0 item.1))) ∙ ap (list_any test) (sym (between_step xs i j item.0 h item.1)) ∙ e

  pub part_end : (test : A → Bool) (xs : List A) (i j : ℕ) (whole : Bool) → j ≡ i → list_any test (between xs i j) ≡ whole → false ≡ whole
  part_end test xs i j whole h e = ap (list_any test) (sym (between_none xs i j h)) ∙ e
