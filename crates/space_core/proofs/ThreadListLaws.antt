-- Items that go from the front of a list.
use Rattle.std.proofs.Common.{◌≡◌, ℕ, zero, suc, ◌+◌, ◌-◌, ◌<◌, ◌≤◌, List, [], ◌∷◌, ◌++◌, length, get_or, slice_set, take, drop, refl, ap, ◌∙◌, arith, length-append}
use Rattle.std.specs.List.{remove}
use Rattle.std.proofs.lemmas.List.{drop_all, length-drop, length-take-le}
use Rattle.oz_semantics.specs.declared.configuration.Thread.{Thread}

-- the last of the first items
last_of : (xs : List Thread) (place : ℕ) (d : Thread) → place < length xs → drop place (take (suc place) xs) ≡ get_or xs place d ∷ []
last_of [] place d h = absurd (omega (arith, h))
last_of (x ∷ xs) zero d h = refl
last_of (x ∷ xs) (suc place) d h = last_of xs place d (omega (arith, h))

others_of : (xs : List Thread) (place : ℕ) → take place (take (suc place) xs) ≡ take place xs
others_of [] zero = refl
others_of [] (suc place) = refl
others_of (x ∷ xs) zero = refl
others_of (x ∷ xs) (suc place) = ap (λ ys. x ∷ ys) (others_of xs place)

as_many : (xs : List Thread) (place : ℕ) → place < length xs → length (take (suc place) xs) ≡ suc place
as_many [] place h = absurd (omega (arith, h))
as_many (x ∷ xs) zero h = refl
as_many (x ∷ xs) (suc place) h = ap (λ n. suc n) (as_many xs place (omega (arith, h)))

-- the first items were turned by one: behind the one at the front stand all others
turned_rest : (xs : List Thread) (place : ℕ) → place < length xs → (d : Thread) → drop 1 ((drop place (take (suc place) xs) ++ take place (take (suc place) xs)) ++ drop (suc place) xs) ≡ remove xs place
turned_rest xs place h d =
    ap (λ (ys : List Thread). drop 1 ((ys ++ take place (take (suc place) xs)) ++ drop (suc place) xs)) (last_of xs place d h)
    ∙ ap (λ (ys : List Thread). ys ++ drop (suc place) xs) (others_of xs place)

-- in the words of a slice of which the first items were turned
pub turned : (xs front : List Thread) (place : ℕ) → place < length xs → front ≡ drop (length (take (place + 1) xs) - 1) (take (place + 1) xs) ++ take (length (take (place + 1) xs) - 1) (take (place + 1) xs)
    → drop 1 (front ++ drop (place + 1) xs) ≡ remove xs place
turned [] front place h e = absurd (omega (arith, h))
turned (x ∷ xs) front place h e =
    let next : place + 1 ≡ suc place = omega arith in
    let before : suc place - 1 ≡ place = omega arith in
    ap (λ (ys : List Thread). drop 1 (ys ++ drop (place + 1) (x ∷ xs))) e
    ∙ ap (λ (n : ℕ). drop 1 ((drop (length (take n (x ∷ xs)) - 1) (take n (x ∷ xs)) ++ take (length (take n (x ∷ xs)) - 1) (take n (x ∷ xs))) ++ drop n (x ∷ xs))) next
    ∙ ap (λ (k : ℕ). drop 1 ((drop k (take (suc place) (x ∷ xs)) ++ take k (take (suc place) (x ∷ xs))) ++ drop (suc place) (x ∷ xs))) (ap (λ n. n - 1) (as_many (x ∷ xs) place h) ∙ before)
    ∙ turned_rest (x ∷ xs) place h x

append_nil : (xs : List Thread) → xs ++ [] ≡ xs
append_nil [] = refl
append_nil (x ∷ xs) = ap (λ ys. x ∷ ys) (append_nil xs)

-- what stands behind the items that are gone, once the first of the others was written and is gone too
gone_next : (xs : List Thread) (gone : ℕ) (y : Thread) → drop (suc gone) (slice_set xs gone y) ≡ drop (suc gone) xs
gone_next [] zero y = refl
gone_next [] (suc gone) y = refl
gone_next (x ∷ xs) zero y = refl
gone_next (x ∷ xs) (suc gone) y = gone_next xs gone y

-- what stands behind them in a list of which the rest was changed
gone_changed : (xs ys : List Thread) (gone : ℕ) → gone ≤ length xs → drop (suc gone) (take gone xs ++ ys) ≡ drop 1 ys
gone_changed [] ys zero h = refl
gone_changed [] ys (suc gone) h = absurd (omega (arith, h))
gone_changed (x ∷ xs) ys zero h = refl
gone_changed (x ∷ xs) ys (suc gone) h = gone_changed xs ys gone (omega (arith, h))

-- the rest was turned, and its first item was written and is gone
pub gone_turned : (xs ys zs : List Thread) (gone place : ℕ) (y : Thread) → gone ≤ length xs → zs ≡ take gone xs ++ ys → drop 1 ys ≡ remove (drop gone xs) place → drop (gone + 1) (slice_set zs gone y) ≡ remove (drop gone xs) place
gone_turned xs ys zs gone place y h e f =
    let next : gone + 1 ≡ suc gone = omega arith in
    ap (λ n. drop n (slice_set zs gone y)) next ∙ gone_next zs gone y ∙ ap (λ (us : List Thread). drop (suc gone) us) e ∙ gone_changed xs ys gone h ∙ f

-- as it stands after a write to the rest
pub let_gone : (items seen front part : List Thread) (gone place : ℕ) (y : Thread) → seen ≡ items → gone ≤ length items → part ≡ drop gone items → drop 1 front ≡ remove part place
    → drop (gone + 1) (slice_set (take gone seen ++ (front ++ drop (length seen - gone) (drop gone seen))) gone y) ≡ remove (drop gone items) place
let_gone items seen front part gone place y same within is turned_so =
    let none : drop (length items - gone) (drop gone items) ≡ [] = drop_all (length items - gone) (drop gone items) (omega (arith, length-drop gone items)) in
    ap (λ (us : List Thread). drop (gone + 1) (slice_set (take gone us ++ (front ++ drop (length us - gone) (drop gone us))) gone y)) same
    ∙ gone_turned items (front ++ drop (length items - gone) (drop gone items)) (take gone items ++ (front ++ drop (length items - gone) (drop gone items))) gone place y within refl
    (ap (λ (us : List Thread). drop 1 (front ++ us)) none ∙ ap (drop 1) (append_nil front) ∙ turned_so ∙ ap (λ (us : List Thread). remove us place) is)

-- as many stand there as before
pub as_many_left : (items seen front part : List Thread) (gone : ℕ) → seen ≡ items → gone ≤ length items → part ≡ drop gone items → length front ≡ length part
    → length (take gone seen ++ (front ++ drop (length seen - gone) (drop gone seen))) ≡ length items
as_many_left items seen front part gone same within is equal =
    let none : drop (length items - gone) (drop gone items) ≡ [] = drop_all (length items - gone) (drop gone items) (omega (arith, length-drop gone items)) in
    let parts : length part ≡ length (drop gone items) = ap length is in
    let rest = length-drop gone items in
    let first = length-take-le gone items within in
    ap (λ (us : List Thread). length (take gone us ++ (front ++ drop (length us - gone) (drop gone us)))) same
    ∙ ap (λ (us : List Thread). length (take gone items ++ (front ++ us))) none
    ∙ ap (λ (us : List Thread). length (take gone items ++ us)) (append_nil front)
    ∙ length-append (take gone items) front
    ∙ omega (arith, equal, parts, rest, first, within)

pub removed_behind : (xs : List Thread) (gone place : ℕ) → gone ≤ length xs → drop gone (remove xs (gone + place)) ≡ remove (drop gone xs) place
removed_behind xs zero place h = let same : zero + place ≡ place = omega arith in ap (remove xs) same
removed_behind [] (suc gone) place h = absurd (omega (arith, h))
removed_behind (x ∷ xs) (suc gone) place h =
    let next : suc gone + place ≡ suc (gone + place) = omega arith in
    ap (λ n. drop (suc gone) (remove (x ∷ xs) n)) next ∙ removed_behind xs gone place (omega (arith, h))
