-- Lists that loops make, one item after another.
use Rattle.std.proofs.Common.{◌≡◌, ℕ, ◌+◌, ◌<◌, Bool, true, false, cond, List, [], ◌∷◌, ◌++◌, map, filter, sym, ap, ◌∙◌, length, get_or, take}
use Rattle.std.proofs.lemmas.List.{take_more, map-append, append-nil}
use Rattle.std.proofs.lemmas.List.Elements.{filter-append}

taken : {A : Type 0} (xs : List A) (i : ℕ) (x : A) → i < length xs → x ≡ get_or xs i x → take (i + 1) xs ≡ take i xs ++ x ∷ []
taken xs i x h at = take_more xs i x h ∙ ap (λ y. take i xs ++ y ∷ []) (sym at)

pub mapped_more : {A B : Type 0} (f : A → B) (xs : List A) (i : ℕ) (x : A) (ys new : List B) (y : B) → i < length xs → x ≡ get_or xs i x → ys ≡ map f (take i xs) → y ≡ f x → new ≡ ys ++ y ∷ [] → new ≡ map f (take (i + 1) xs)
mapped_more f xs i x ys new y h at was e n =
    n ∙ ap (λ l. l ++ y ∷ []) was ∙ ap (λ z. map f (take i xs) ++ z ∷ []) e
    ∙ sym (ap (map f) (taken xs i x h at) ∙ map-append f (take i xs) (x ∷ []))

pub filtered_more : {A : Type 0} (p : A → Bool) (xs : List A) (i : ℕ) (x : A) (ys new : List A) → i < length xs → x ≡ get_or xs i x → ys ≡ filter p (take i xs) → p x ≡ true → new ≡ ys ++ x ∷ [] → new ≡ filter p (take (i + 1) xs)
filtered_more p xs i x ys new h at was e n =
    n ∙ ap (λ l. l ++ x ∷ []) was ∙ ap (λ b. filter p (take i xs) ++ cond b (x ∷ []) []) (sym e)
    ∙ sym (ap (filter p) (taken xs i x h at) ∙ filter-append p (take i xs) (x ∷ []))

pub filtered_same : {A : Type 0} (p : A → Bool) (xs : List A) (i : ℕ) (x : A) (ys : List A) → i < length xs → x ≡ get_or xs i x → ys ≡ filter p (take i xs) → p x ≡ false → ys ≡ filter p (take (i + 1) xs)
filtered_same p xs i x ys h at was e =
    was ∙ sym (append-nil (filter p (take i xs))) ∙ ap (λ b. filter p (take i xs) ++ cond b (x ∷ []) []) (sym e)
    ∙ sym (ap (filter p) (taken xs i x h at) ∙ filter-append p (take i xs) (x ∷ []))
