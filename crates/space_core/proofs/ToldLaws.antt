-- Tests of a list, item by item.
use Rattle.std.proofs.Common.{◌≡◌, ℕ, zero, suc, Bool, true, false, not, ◌&&◌, ◌||◌, cond, List, [], ◌∷◌, take, length, filter, slice_get, flat_map, refl, sym, ap, ◌∙◌, arith}
use Rattle.std.specs.List.{list_all, list_any}
use Rattle.std.proofs.lemmas.Bool.{false≢true}
use Rattle.std.proofs.lemmas.List.Folds.{list_any-append}
use Rattle.oz_semantics.specs.declared.value.Tell.{Tell}
use Rattle.space_core.specs.Silence.{passes, meets}

and-false : (b : Bool) → (b && false) ≡ false
and-false true = refl
and-false false = refl

and_three : (a b c : Bool) → (a && (b && c)) ≡ ((a && b) && c)
and_three true b c = refl
and_three false b c = refl

or_three : (a b c : Bool) → (a || (b || c)) ≡ ((a || b) || c)
or_three true b c = refl
or_three false b c = refl

and-true : (b : Bool) → (b && true) ≡ b
and-true true = refl
and-true false = refl

or-false : (b : Bool) → (b || false) ≡ b
or-false true = refl
or-false false = refl

pub all_more : (p : Tell → Bool) (n : ℕ) (ts : List Tell) → list_all p (take (suc n) ts) ≡ (list_all p (take n ts) && passes p (slice_get ts n))
all_more p zero [] = refl
all_more p zero (t ∷ ts) = and-true (p t)
all_more p (suc n) [] = refl
all_more p (suc n) (t ∷ ts) = ap (λ b. p t && b) (all_more p n ts) ∙ and_three (p t) (list_all p (take n ts)) (passes p (slice_get ts n))

pub any_more : (p : Tell → Bool) (n : ℕ) (ts : List Tell) → list_any p (take (suc n) ts) ≡ (list_any p (take n ts) || meets p (slice_get ts n))
any_more p zero [] = refl
any_more p zero (t ∷ ts) = or-false (p t)
any_more p (suc n) [] = refl
any_more p (suc n) (t ∷ ts) = ap (λ b. p t || b) (any_more p n ts) ∙ or_three (p t) (list_any p (take n ts)) (meets p (slice_get ts n))

-- one that fails, and one that passes
pub all_fails : (p : Tell → Bool) (n : ℕ) (ts : List Tell) → passes p (slice_get ts n) ≡ false → list_all p ts ≡ false
all_fails p n [] e = absurd (false≢true (sym e))
all_fails p zero (t ∷ ts) e = ap (λ b. b && list_all p ts) e
all_fails p (suc n) (t ∷ ts) e = ap (λ b. p t && b) (all_fails p n ts e) ∙ and-false (p t)

or-true : (b : Bool) → (b || true) ≡ true
or-true true = refl
or-true false = refl

pub any_passes : (p : Tell → Bool) (n : ℕ) (ts : List Tell) → meets p (slice_get ts n) ≡ true → list_any p ts ≡ true
any_passes p n [] e = absurd (false≢true e)
any_passes p zero (t ∷ ts) e = ap (λ b. b || list_any p ts) e
any_passes p (suc n) (t ∷ ts) e = ap (λ b. p t || b) (any_passes p n ts e) ∙ or-true (p t)

pub take_all : {A : Type 0} (n : ℕ) (xs : List A) → n ≡ length xs → take n xs ≡ xs
take_all zero [] e = refl
take_all zero (x ∷ xs) e = absurd (omega (arith, e))
take_all (suc n) [] e = absurd (omega (arith, e))
take_all (suc n) (x ∷ xs) e = ap (λ ys. x ∷ ys) (take_all n xs (omega (arith, e)))

-- a test of those that another test keeps
pub all_filter : {A : Type 0} (p q : A → Bool) (xs : List A) → list_all q (filter p xs) ≡ list_all (λ x. not (p x) || q x) xs
all_filter p q [] = refl
all_filter p q (x ∷ xs) = by (p x) (all_filter p q xs)
  where
    by : (b : Bool) → list_all q (filter p xs) ≡ list_all (λ x. not (p x) || q x) xs → list_all q (cond b (x ∷ filter p xs) (filter p xs)) ≡ ((not b || q x) && list_all (λ x. not (p x) || q x) xs)
    by true e = ap (λ b. q x && b) e
    by false e = e

pub any_filter : {A : Type 0} (p q : A → Bool) (xs : List A) → list_any q (filter p xs) ≡ list_any (λ x. p x && q x) xs
any_filter p q [] = refl
any_filter p q (x ∷ xs) = by (p x) (any_filter p q xs)
  where
    by : (b : Bool) → list_any q (filter p xs) ≡ list_any (λ x. p x && q x) xs → list_any q (cond b (x ∷ filter p xs) (filter p xs)) ≡ ((b && q x) || list_any (λ x. p x && q x) xs)
    by true e = ap (λ b. q x || b) e
    by false e = e

pub any_flat : {A B : Type 0} (p : B → Bool) (f : A → List B) (xs : List A) → list_any p (flat_map f xs) ≡ list_any (λ x. list_any p (f x)) xs
any_flat p f [] = refl
any_flat p f (x ∷ xs) = list_any-append p (f x) (flat_map f xs) ∙ ap (λ b. list_any p (f x) || b) (any_flat p f xs)
