-- Two lists of which one has come to its end are in the order of their lengths.
use Rattle.std.proofs.Common.{◌≡◌, ◌⊎◌, inl, inr, ⊎_elim, ℕ, zero, suc, ◌≤◌, List, [], ◌∷◌, drop, length, refl, ◌∙◌, arith}
use Rattle.std.specs.Ordering.{nat_cmp}
use Rattle.std.specs.declared.cmp.Ordering.{Ordering}
use Rattle.std.proofs.lemmas.Bool.Decides.{nat_tests}
use Rattle.std.specs.Cmp.Lexicographic.{slice_cmp}

module _ {B : Type 0} (R : B → B → Ordering) where
  by_lengths : (xs ys : List B) (i : ℕ) → i ≤ length xs → i ≤ length ys → (length xs ≤ i) ⊎ (length ys ≤ i) → nat_cmp (length xs) (length ys) ≡ slice_cmp R (drop i xs) (drop i ys)
  by_lengths [] [] zero a b e = refl
  by_lengths [] (y ∷ ys) zero a b e = grind (arith, nat_tests)
  by_lengths (x ∷ xs) [] zero a b e = grind (arith, nat_tests)
  by_lengths (x ∷ xs) (y ∷ ys) zero a b e = absurd (⊎_elim (λ l. omega (arith, l)) (λ l. omega (arith, l)) e)
  by_lengths [] ys (suc i) a b e = absurd (omega (arith, a))
  by_lengths (x ∷ xs) [] (suc i) a b e = absurd (omega (arith, b))
  by_lengths (x ∷ xs) (y ∷ ys) (suc i) a b e =
      let same : nat_cmp (length (x ∷ xs)) (length (y ∷ ys)) ≡ nat_cmp (length xs) (length ys) = grind (arith, nat_tests) in
      same ∙ by_lengths xs ys i (omega (arith, a)) (omega (arith, b)) (⊎_elim (λ l. inl (omega (arith, l))) (λ l. inr (omega (arith, l))) e)

  pub ended : (xs ys : List B) (i : ℕ) → i ≤ length xs → i ≤ length ys → (length xs ≤ i) ⊎ (length ys ≤ i) → slice_cmp R (drop i xs) (drop i ys) ≡ slice_cmp R xs ys → nat_cmp (length xs) (length ys) ≡ slice_cmp R xs ys
  ended xs ys i a b e rest = by_lengths xs ys i a b e ∙ rest
