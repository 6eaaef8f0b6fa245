-- The longest front of a list whose items all pass a test.
use Rattle.std.proofs.Common.{◌≡◌, ◌≤◌, ◌<◌, ◌+◌, ℕ, zero, suc, List, [], ◌∷◌, length, take, drop, get_or, Bool, true, false, cond, refl, arith}
use Rattle.std.specs.List.{list_all, prefix_len}
use Rattle.oz_lex.specs.Scanning.{begins}

module _ (p : ℕ → Bool) where
  front_here : (x : ℕ) (xs : List ℕ) (q : Bool) → p x ≡ q → list_all p (take (prefix_len p xs) xs) ≡ true → list_all p (take (cond q (1 + prefix_len p xs) 0) (x ∷ xs)) ≡ true
  front_here x xs true e h = let s : 1 + prefix_len p xs ≡ suc (prefix_len p xs) = omega arith in rw s (rw e h)
  front_here x xs false e h = refl

  pub all_front : (xs : List ℕ) → list_all p (take (prefix_len p xs) xs) ≡ true
  all_front [] = refl
  all_front (x ∷ xs) = front_here x xs (p x) refl (all_front xs)

  past_here : (x : ℕ) (xs : List ℕ) (m : ℕ) (q : Bool) → p x ≡ q → cond q (1 + prefix_len p xs) 0 < suc m → (prefix_len p xs < m → list_all p (take m xs) ≡ false) → list_all p (x ∷ take m xs) ≡ false
  past_here x xs m true e l f = rw e (f (omega arith))
  past_here x xs m false e l f = rw e refl

  -- a longer front has an item that does not pass
  pub past_front : (xs : List ℕ) (m : ℕ) → prefix_len p xs < m → m ≤ length xs → list_all p (take m xs) ≡ false
  past_front [] m h i = absurd (omega arith)
  past_front (x ∷ xs) zero h i = absurd (omega arith)
  past_front (x ∷ xs) (suc m) h i = let l : m ≤ length xs = omega arith in past_here x xs m (p x) refl h (λ k. past_front xs m k l)

  pub some_front : (xs : List ℕ) → begins p xs ≡ true → 0 < prefix_len p xs
  some_front [] e = absurd (cc)
  some_front (x ∷ xs) e = rw e (omega arith)

  -- the first item behind n items
  pub begins_drop : (xs : List ℕ) (n : ℕ) → n < length xs → begins p (drop n xs) ≡ p (get_or xs n 0)
  begins_drop [] n h = absurd (omega arith)
  begins_drop (x ∷ xs) zero h = refl
  begins_drop (x ∷ xs) (suc n) h = begins_drop xs n (omega arith)

  pub begins_within : (xs : List ℕ) (n : ℕ) → begins p (drop n xs) ≡ true → n < length xs
  begins_within [] zero e = absurd (cc)
  begins_within [] (suc n) e = absurd (cc)
  begins_within (x ∷ xs) zero e = omega arith
  begins_within (x ∷ xs) (suc n) e = let h = begins_within xs n e in omega (arith, h)
