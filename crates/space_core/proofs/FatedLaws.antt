-- Spaces have their fates one after another, the last one first.
use Rattle.std.proofs.Common.{◌≡◌, ℕ, zero, suc, ◌+◌, ◌<◌, ◌≤◌, List, [], ◌∷◌, ◌++◌, length, drop, slice_get, slice_set, slice_index_or, refl, sym, ap, ◌∙◌, arith, Some, None, append_assoc, length-append}
use Rattle.std.specs.List.{remove}
use Rattle.space_core.specs.Ending.{fallen}
use Rattle.space_core.specs.Fates.{seeing, left_as, with_fate, with_fates}
use Rattle.space_core.specs.declared.fates.Fate.{Fate}
use Rattle.space_core.specs.declared.fates.Fate.TheVariants.{Stays, Gone, Fails, Sees, Bare}
use Rattle.space_core.specs.declared.fates.Seen.{Seen}
use Rattle.space_core.specs.declared.level.Level.{Level}

-- One space

pub fate_stays : (n : ℕ) (ls : List Level) → ls ≡ with_fate n Stays ls
fate_stays n [] = refl
fate_stays zero (l ∷ ls) = refl
fate_stays (suc n) (l ∷ ls) = ap (λ (ks : List Level). l ∷ ks) (fate_stays n ls)

pub fate_bare : (n : ℕ) (ls : List Level) → ls ≡ with_fate n Bare ls
fate_bare n [] = refl
fate_bare zero (l ∷ ls) = refl
fate_bare (suc n) (l ∷ ls) = ap (λ (ks : List Level). l ∷ ks) (fate_bare n ls)

pub fate_gone : (n : ℕ) (ls : List Level) → n < length ls → remove ls n ≡ with_fate n Gone ls
fate_gone n [] w = absurd (omega (arith, w))
fate_gone zero (l ∷ ls) w = refl
fate_gone (suc n) (l ∷ ls) w = ap (λ (ks : List Level). l ∷ ks) (fate_gone n ls (omega (arith, w)))

fate_set : (n : ℕ) (fate : Fate) (change : Level → Level) (ls : List Level) (l : Level) → ((k : Level) → left_as fate k ≡ change k ∷ []) → n < length ls → l ≡ slice_index_or ls n l
    → slice_set ls n (change l) ≡ with_fate n fate ls
fate_set n fate change [] l h w e = absurd (omega (arith, w))
fate_set zero fate change (k ∷ ls) l h w e = ap (λ (j : Level). change j ∷ ls) e ∙ sym (ap (λ (js : List Level). js ++ ls) (h k))
fate_set (suc n) fate change (k ∷ ls) l h w e = ap (λ (js : List Level). k ∷ js) (fate_set n fate change ls l h (omega (arith, w)) e)

pub fate_fails : (n : ℕ) (ls : List Level) (l m : Level) → n < length ls → l ≡ slice_index_or ls n l → m ≡ fallen l → slice_set ls n m ≡ with_fate n Fails ls
fate_fails n ls l m w e q = ap (slice_set ls n) q ∙ fate_set n Fails fallen ls l (λ k. refl) w e

pub fate_sees : (n : ℕ) (ls : List Level) (l m : Level) → n < length ls → l ≡ slice_index_or ls n l → (seen : Seen) → m ≡ seeing seen l → slice_set ls n m ≡ with_fate n (Sees seen) ls
fate_sees n ls l m w e seen q = ap (slice_set ls n) q ∙ fate_set n (Sees seen) (seeing seen) ls l (λ k. refl) w e

-- All of them

pub fates_last : (fates : List Fate) (fate : Fate) (ls : List Level) → with_fates fates (with_fate (length fates) fate ls) ≡ with_fates (fates ++ fate ∷ []) ls
fates_last [] fate [] = refl
fates_last [] fate (l ∷ ls) = refl
fates_last (f ∷ fates) fate [] = refl
fates_last (f ∷ fates) fate (l ∷ ls) = ap (λ (ks : List Level). left_as f l ++ ks) (fates_last fates fate ls)

-- those before it are still there
pub fate_length : (n : ℕ) (fate : Fate) (ls : List Level) → n ≤ length ls → n ≤ length (with_fate n fate ls)
fate_length n fate [] w = w
fate_length zero fate (l ∷ ls) w = omega arith
fate_length (suc n) fate (l ∷ ls) w = let r = fate_length n fate ls (omega (arith, w)) in omega (arith, r)

-- one more has its fate
pub fates_step : (before after : List Fate) (fate : Fate) (ls ks : List Level) (n : ℕ) → before ≡ after ++ fate ∷ [] → n ≡ length after → ks ≡ with_fate n fate ls → length before ≤ length ls
    → (length after ≤ length ks) × (with_fates after ks ≡ with_fates before ls)
fates_step before after fate ls ks n e f t w =
    let longer : length before ≡ length after + 1 = ap length e ∙ length-append after (fate ∷ []) in
    let there : n ≤ length ls = omega (arith, f, longer, w) in
    let kept = fate_length n fate ls there in (
      omega (arith, kept, f, ap length t),
      ap (with_fates after) (t ∙ ap (λ m. with_fate m fate ls) f) ∙ fates_last after fate ls ∙ sym (ap (λ (fs : List Fate). with_fates fs ls) e),
    )

-- What a store was told from a place on

pub told_more : {A : Type 0} (xs : List A) (place : ℕ) (x : A) → slice_get xs place ≡ Some x → drop place xs ≡ x ∷ drop (suc place) xs
told_more [] place x e = cc
told_more (y ∷ ys) zero x e = let same : y ≡ x = cc in ap (λ z. z ∷ ys) same
told_more (y ∷ ys) (suc place) x e = told_more ys place x e

pub told_no_more : {A : Type 0} (xs : List A) (place : ℕ) → slice_get xs place ≡ None → drop place xs ≡ []
told_no_more [] zero e = refl
told_no_more [] (suc place) e = refl
told_no_more (y ∷ ys) zero e = cc
told_no_more (y ∷ ys) (suc place) e = told_no_more ys place e

pub took_more : {A : Type 0} (xs : List A) (place from : ℕ) (old new : List A) (x y : A) → old ++ drop place xs ≡ drop from xs → Some x ≡ slice_get xs place → y ≡ x → new ≡ old ++ y ∷ [] → new ++ drop (place + 1) xs ≡ drop from xs
took_more xs place from old new x y e got same more =
    ap (λ ys. ys ++ drop (place + 1) xs) more
    ∙ append_assoc old (y ∷ []) (drop (place + 1) xs)
    ∙ ap (λ ys. old ++ ys) (ap (λ z. z ∷ drop (place + 1) xs) same ∙ ap (λ n. x ∷ drop n xs) next ∙ sym (told_more xs place x (sym got)))
    ∙ e
  where
    next : place + 1 ≡ suc place
    next = omega arith

pub took_none : {A : Type 0} (xs : List A) (place from : ℕ) (old : List A) → old ++ drop place xs ≡ drop from xs → None ≡ slice_get xs place → old ++ drop (place + 1) xs ≡ drop from xs
took_none xs place from old e got =
    ap (λ ys. old ++ ys) (none_after xs place (sym got) ∙ sym (told_no_more xs place (sym got))) ∙ e
  where
    later : {A : Type 0} (xs : List A) (n : ℕ) → slice_get xs n ≡ None → drop (suc n) xs ≡ []
    later [] n k = refl
    later (z ∷ zs) zero k = cc
    later (z ∷ zs) (suc n) k = later zs n k

    none_after : {A : Type 0} (xs : List A) (n : ℕ) → slice_get xs n ≡ None → drop (n + 1) xs ≡ []
    none_after xs n k = let up : n + 1 ≡ suc n = omega arith in ap (λ m. drop m xs) up ∙ later xs n k
