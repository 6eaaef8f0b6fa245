-- The end of a comment.
use Rattle.std.proofs.Common.{◌≡◌, ◌≤◌, ◌<◌, ◌+◌, ◌-◌, ◌∷◌, [], ℕ, zero, suc, List, true, false, length, take, drop, sym, refl, ap, ◌∙◌, arith, length-drop, add-one}
use Rattle.std.specs.Prelude.{if◌then◌else◌}
use Rattle.std.proofs.lemmas.List.{take_all}
use Rattle.oz_language.specs.Tokens.{close_length, after_one}
use Rattle.oz_lex.specs.Scanning.{begins_close}

-- n bytes further, where there is an end
abbrev pub behind : ℕ → ℕ → ℕ
behind n zero = zero
behind n (suc m) = n + suc m

behind_next : (n m : ℕ) → behind n (after_one m) ≡ behind (suc n) m
behind_next n zero = refl
behind_next n (suc m) = omega arith

close_next : (xs : List ℕ) → 2 ≤ length xs → begins_close xs ≡ false → close_length xs ≡ after_one (close_length (drop 1 xs))
close_next [] l e = absurd (omega arith)
close_next (a ∷ []) l e = absurd (omega arith)
close_next (a ∷ b ∷ bs) l e = ap (λ q. if q then 2 else after_one (close_length (b ∷ bs))) e

close_here : (xs : List ℕ) → begins_close xs ≡ true → close_length xs ≡ 2
close_here [] e = absurd (cc)
close_here (a ∷ []) e = absurd (cc)
close_here (a ∷ b ∷ bs) e = ap (λ q. if q then 2 else after_one (close_length (b ∷ bs))) e

close_short : (xs : List ℕ) → length xs < 2 → close_length xs ≡ 0
close_short [] l = refl
close_short (a ∷ []) l = refl
close_short (a ∷ b ∷ bs) l = absurd (omega arith)

drop_next : (xs : List ℕ) (n : ℕ) → drop 1 (drop n xs) ≡ drop (suc n) xs
drop_next xs zero = refl
drop_next [] (suc n) = refl
drop_next (x ∷ xs) (suc n) = drop_next xs n

pub next : (xs : List ℕ) (n : ℕ) → begins_close (drop n xs) ≡ false → 2 ≤ length xs - n → close_length xs ≡ behind n (close_length (drop n xs)) → close_length xs ≡ behind (n + 1) (close_length (drop (n + 1) xs))
next xs n f l h =
    let d : 2 ≤ length (drop n xs) = omega (arith, length-drop n xs) in
    let s : close_length (drop n xs) ≡ after_one (close_length (drop (suc n) xs)) = close_next (drop n xs) d f ∙ ap (λ ys. after_one (close_length ys)) (drop_next xs n) in
    rw (add-one n) (h ∙ ap (behind n) s ∙ behind_next n (close_length (drop (suc n) xs)))

pub here : (xs : List ℕ) (n : ℕ) → begins_close (drop n xs) ≡ true → close_length xs ≡ behind n (close_length (drop n xs)) → n + 2 ≡ close_length xs
here xs n f h = sym (h ∙ ap (behind n) (close_here (drop n xs) f))

pub short : (xs : List ℕ) (n : ℕ) → length xs - n < 2 → close_length xs ≡ behind n (close_length (drop n xs)) → 0 ≡ close_length xs
short xs n l h =
    let d : length (drop n xs) < 2 = omega (arith, length-drop n xs) in
    sym (h ∙ ap (behind n) (close_short (drop n xs) d))

pub tail : (text : List ℕ) (at : ℕ) → take (length text - at) (drop at text) ≡ drop at text
tail text at = take_all (length text - at) (drop at text) (omega (arith, length-drop at text))
