-- Pairs of the items of two lists.
use Rattle.std.proofs.Common.{◌≡◌, ◌∙◌, List, [], ◌∷◌, ◌++◌, length, sym, refl, ap, arith, inl, inr, ◌⊎◌, append-nil}
use Rattle.std.specs.List.{zip}

no_pairs : {A B : Type 0} (xs : List A) (ys : List B) → (length xs ≡ 0) ⊎ (length ys ≡ 0) → zip xs ys ≡ []
no_pairs [] ys h = refl
no_pairs (x ∷ xs) [] h = refl
no_pairs (x ∷ xs) (y ∷ ys) (inl e) = absurd (omega (arith, e))
no_pairs (x ∷ xs) (y ∷ ys) (inr e) = absurd (omega (arith, e))

-- where one list has come to its end, all pairs were taken
pub zipped : {A B : Type 0} (now whole : List (A × B)) (xs : List A) (ys : List B) → (length xs ≡ 0) ⊎ (length ys ≡ 0) → now ++ zip xs ys ≡ whole → now ≡ whole
zipped now whole xs ys h e = sym (append-nil now) ∙ ap (λ ps. now ++ ps) (sym (no_pairs xs ys h)) ∙ e
