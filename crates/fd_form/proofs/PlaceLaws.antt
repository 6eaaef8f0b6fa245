-- Places from 0 on.
use Rattle.std.proofs.Common.{◌≡◌, ℕ, zero, suc, ◌+◌, ◌<◌, Bool, true, false, ◌&&◌, ◌||◌, nat_eq, List, [], ◌∷◌, ◌++◌, length, refl, ap, ◌∙◌, arith}
use Rattle.std.proofs.lemmas.List.FromFn.{length-range_with_len, get_or-range_with_len}
use Rattle.std.proofs.lemmas.List.Folds.{list_all_at, list_all-append}
use Rattle.std.specs.Cmp.{nat_eq_equiv}
use Rattle.std.specs.List.{list_all, list_any, range_with_len}

range_from : (a n : ℕ) → range_with_len a (n + 1) ≡ range_with_len a n ++ (a + n) ∷ []
range_from a zero =
    let end : a ≡ a + 0 = omega arith in
    ap (λ k. k ∷ []) end
range_from a (suc n) =
    let one : suc n + 1 ≡ suc (suc n) = omega arith in
    let next : suc n ≡ n + 1 = omega arith in
    let end : (a + 1) + n ≡ a + suc n = omega arith in
    ap (range_with_len a) one ∙ ap (λ k. a ∷ range_with_len (a + 1) k) next ∙ ap (λ ks. a ∷ ks) (range_from (a + 1) n)
    ∙ ap (λ k. a ∷ (range_with_len (a + 1) n ++ k ∷ [])) end

pub range_more : (n : ℕ) → range_with_len 0 (n + 1) ≡ range_with_len 0 n ++ n ∷ []
range_more n =
    let start : 0 + n ≡ n = omega arith in
    range_from 0 n ∙ ap (λ k. range_with_len 0 n ++ k ∷ []) start

-- a test that all places pass
pub all_more : (test : ℕ → Bool) (n : ℕ) → list_all test (range_with_len 0 n) ≡ true → test n ≡ true → list_all test (range_with_len 0 (n + 1)) ≡ true
all_more test n h e =
    ap (list_all test) (range_more n) ∙ list_all-append test (range_with_len 0 n) (n ∷ [])
    ∙ ap (λ b. b && (test n && true)) h ∙ ap (λ b. b && true) e

-- or one place does not
pub not_all : (test : ℕ → Bool) (n k : ℕ) → k < n → test k ≡ false → list_all test (range_with_len 0 n) ≡ false
not_all test n k lt e =
    let inside : k < length (range_with_len 0 n) = omega (arith, lt, length-range_with_len 0 n) in
    let start : 0 + k ≡ k = omega arith in
    list_all_at test (range_with_len 0 n) k 0 inside (ap test (get_or-range_with_len 0 n k 0 lt ∙ start) ∙ e)

-- a number is found from either side of a comparison
pub turned : (k : ℕ) (xs : List ℕ) → list_any (λ x. nat_eq x k) xs ≡ list_any (nat_eq k) xs
turned k [] = refl
turned k (x ∷ xs) = ap (λ b. b || list_any (λ y. nat_eq y k) xs) (nat_eq_equiv.symm x k) ∙ ap (λ b. nat_eq k x || b) (turned k xs)
