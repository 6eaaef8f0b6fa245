-- What one read or write of a piece does to the bytes.
use Rattle.std.proofs.Common.{◌≡◌, ◌∙◌, ◌+◌, ◌-◌, ◌<◌, ◌≤◌, ◌++◌, ℕ, List, [], length, take, drop, min, Option, sym, subst, ap, arith, length-append, length-drop, take-append-drop}
use Rattle.std.proofs.Math.Seq.{take-add, take-append_seam}
use Rattle.std.proofs.lemmas.List.{drop_all, length-take-le, take_rest}
use Rattle.std.specs.Io.KnownBytes.{Appends}
use Rattle.std.proofs.KnownBytes.{Appends-trans}

-- a write of n more bytes, of those from `done` on
pub moves_on : (a b c : Option (List ℕ)) (xs : List ℕ) (done n : ℕ) → done ≤ length xs → n ≤ length (take (length xs - done) (drop done xs))
    → Appends a b (take done xs) → Appends b c (take n (take (length xs - done) (drop done xs)))
    → (done + n ≤ length xs) × Appends a c (take (done + n) xs)
moves_on a b c xs done n within bound before more =
    let fits : n ≤ length (drop done xs) = subst (λ (t : List ℕ). n ≤ length t) (take_rest xs done) bound in
    let next : Appends b c (take n (drop done xs)) = subst (λ (t : List ℕ). Appends b c (take n t)) (take_rest xs done) more in
    (omega (arith, length-drop done xs), subst (Appends a c) (sym (take-add done n xs)) (Appends-trans a b c (take done xs) (take n (drop done xs)) before next))

-- a read that copies the first n of the bytes that are left to the front of a buffer
pub gives_next : (left copied buf : List ℕ) (n chunk : ℕ) → copied ≡ take n left → n ≡ min (min (length left) chunk) (length buf) → 0 < chunk
    → (left ≡ take n (copied ++ drop n buf) ++ drop n left) × (n ≡ 0 → 0 < length (copied ++ drop n buf) → drop n left ≡ [])
gives_next left copied buf n chunk is least some =
    let len : length copied ≡ n = ap length is ∙ length-take-le n left (omega arith) in
    let front : take n (copied ++ drop n buf) ≡ take n left
    = ap (λ k. take k (copied ++ drop n buf)) (sym len) ∙ take-append_seam copied (drop n buf) ∙ is in (
      sym (take-append-drop n left) ∙ ap (λ x. x ++ drop n left) (sym front),
      λ none some_room. drop_all n left (omega (arith, length-append copied (drop n buf), length-drop n buf)),
    )
