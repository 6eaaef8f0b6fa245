-- One arity, by the pairs of features at one place.
use Rattle.std.proofs.Common.{◌≡◌, ℕ, suc, Bool, true, false, ◌&&◌, List, [], ◌∷◌, length, refl, ap, arith}
use Rattle.std.specs.List.{list_all, zip}
use Rattle.oz_language.specs.Constants.{constant_eq, same_arity}
use Rattle.oz_language.specs.declared.kernel.Constant.{Constant}

pub arity_of_pairs : (fs gs : List Constant) → length fs ≡ length gs → list_all (λ (p : Constant × Constant). constant_eq p.0 p.1) (zip fs gs) ≡ same_arity fs gs
arity_of_pairs [] [] e = refl
arity_of_pairs (f ∷ fs) (g ∷ gs) e = ap (λ b. constant_eq f g && b) (arity_of_pairs fs gs (omega (arith, e)))
arity_of_pairs [] (g ∷ gs) e = absurd (omega (arith, e))
arity_of_pairs (f ∷ fs) [] e = absurd (omega (arith, e))

and_long : (b c : Bool) (m n : ℕ) → (c ≡ true → m ≡ n) → (b && c) ≡ true → suc m ≡ suc n
and_long true c m n h e = ap (λ k. suc k) (h e)
and_long false c m n h e = cc

arity_long : (fs gs : List Constant) → same_arity fs gs ≡ true → length fs ≡ length gs
arity_long [] [] e = refl
arity_long (f ∷ fs) (g ∷ gs) e = and_long (constant_eq f g) (same_arity fs gs) (length fs) (length gs) (arity_long fs gs) e
arity_long [] (g ∷ gs) e = cc
arity_long (f ∷ fs) [] e = cc

pub arity_apart : (fs gs : List Constant) → (length fs ≡ length gs → ⊥) → same_arity fs gs ≡ false
arity_apart fs gs n = by (same_arity fs gs) refl
  where
    by : (b : Bool) → same_arity fs gs ≡ b → b ≡ false
    by false e = refl
    by true e = absurd (n (arity_long fs gs e))
