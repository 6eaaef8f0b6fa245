-- A list turned round, in parts.
use Rattle.std.proofs.Common.{ℕ, ◌≡◌, ◌+◌, arith, List, ◌++◌, length, take, drop, reverse, ap, sym, ◌∙◌}
use Rattle.std.proofs.lemmas.List.{reverse-append, take-append-drop, length-drop, length-reverse, take_at, drop_at}
use Rattle.std.specs.List.{remove_range}

turned : {A : Type 0} (xs : List A) (at : ℕ) → reverse xs ≡ reverse (drop at xs) ++ reverse (take at xs)
turned xs at = ap reverse (sym (take-append-drop at xs)) ∙ reverse-append (take at xs) (drop at xs)

turned_length : {A : Type 0} (xs : List A) (at n : ℕ) → at + n ≡ length xs → length (reverse (drop at xs)) ≡ n
turned_length xs at n h = length-reverse (drop at xs) ∙ length-drop at xs ∙ omega (arith, h)

take_turned : {A : Type 0} (xs : List A) (at n : ℕ) → at + n ≡ length xs → take n (reverse xs) ≡ reverse (drop at xs)
take_turned xs at n h = ap (take n) (turned xs at) ∙ take_at (reverse (drop at xs)) (reverse (take at xs)) n (turned_length xs at n h)

drop_turned : {A : Type 0} (xs : List A) (at n : ℕ) → at + n ≡ length xs → drop n (reverse xs) ≡ reverse (take at xs)
drop_turned xs at n h = ap (drop n) (turned xs at) ∙ drop_at (reverse (drop at xs)) (reverse (take at xs)) n (turned_length xs at n h)

-- what is left when a part is cut out
pub cut_turned : {A : Type 0} (xs : List A) (from to n m : ℕ) → from + m ≡ length xs → to + n ≡ length xs
    → reverse (remove_range xs from to) ≡ take n (reverse xs) ++ drop m (reverse xs)
cut_turned xs from to n m f t =
    reverse-append (take from xs) (drop to xs)
    ∙ ap (λ l. l ++ reverse (take from xs)) (sym (take_turned xs to n t))
    ∙ ap (λ l. take n (reverse xs) ++ l) (sym (drop_turned xs from m f))
