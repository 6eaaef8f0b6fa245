-- What stands at a place of a list, and what is left from there on.
use Rattle.std.proofs.Common.{◌≡◌, ℕ, zero, suc, ◌+◌, ◌<◌, List, [], ◌∷◌, ◌++◌, drop, length, Some, refl, sym, ap, ◌∙◌, arith, append_assoc}
use Rattle.std.specs.Prelude.{slice_get}
use Rattle.std.specs.List.{flat_map}
use Rattle.std.proofs.lemmas.List.{drop_more, drop_all, append-nil}
use Rattle.std.proofs.lemmas.Option.{slice_get_within, get_or_from_slice_get}

-- from the place of an item on
pub rest_at : {A : Type 0} (xs : List A) (i : ℕ) (x : A) → slice_get xs i ≡ Some x → drop i xs ≡ x ∷ drop (i + 1) xs
rest_at xs i x e = drop_more xs i x (slice_get_within xs i x e) ∙ ap (λ y. y ∷ drop (i + 1) xs) (get_or_from_slice_get xs i x x e)

-- an item stands at each place within a list
pub item_at : {A : Type 0} (xs : List A) (i : ℕ) → i < length xs → (x : A) × (slice_get xs i ≡ Some x)
item_at [] i h = absurd (omega (arith, h))
item_at (x ∷ xs) zero h = (x, refl)
item_at (x ∷ xs) (suc i) h = item_at xs i (omega (arith, h))

-- one item on, and at the end
pub gathered_more : {A B : Type 0} (f : A → List B) (xs : List A) (i : ℕ) → i < length xs → (made more whole : List B) → made ++ flat_map f (drop i xs) ≡ whole
    → ((x : A) → slice_get xs i ≡ Some x → more ≡ made ++ f x) → more ++ flat_map f (drop (i + 1) xs) ≡ whole
gathered_more f xs i h made more whole e step =
    let item = item_at xs i h in
    ap (λ ys. ys ++ flat_map f (drop (i + 1) xs)) (step item.0 item.1) ∙ append_assoc made (f item.0) (flat_map f (drop (i + 1) xs))
    ∙ ap (λ ys. made ++ flat_map f ys) (sym (rest_at xs i item.0 item.1)) ∙ e

pub gathered_all : {A B : Type 0} (f : A → List B) (xs : List A) (i : ℕ) → length xs ≡ i → (made whole : List B) → made ++ flat_map f (drop i xs) ≡ whole → made ≡ whole
gathered_all f xs i h made whole e = sym (append-nil made) ∙ ap (λ ys. made ++ flat_map f ys) (sym (drop_all i xs (omega (arith, h)))) ∙ e
