-- Stacks that an exception goes through.
use Rattle.std.proofs.Common.{◌≡◌, ℕ, ◌+◌, ◌-◌, ◌<◌, arith, List, [], ◌∷◌, ◌++◌, length, take, drop, get_or, reverse, sym, ap, ◌∙◌, Some}
use Rattle.std.proofs.lemmas.List.{reverse-append, take-append-drop, length-drop, length-reverse, drop_at, take_more}
use Rattle.oz_base.specs.declared.names.Ident.{Ident}
use Rattle.oz_semantics.specs.Exceptions.{unwound, unwound_at}
use Rattle.oz_semantics.specs.declared.configuration.Frame.{Frame}
use Rattle.space_core.specs.Stacks.{HandlerOf}

-- what is left of a list that is turned round
drop_turned : {A : Type 0} (xs : List A) (at n : ℕ) → at + n ≡ length xs → drop n (reverse xs) ≡ reverse (take at xs)
drop_turned xs at n h =
    ap (drop n) (ap reverse (sym (take-append-drop at xs)) ∙ reverse-append (take at xs) (drop at xs))
    ∙ drop_at (reverse (drop at xs)) (reverse (take at xs)) n (length-reverse (drop at xs) ∙ length-drop at xs ∙ omega (arith, h))

-- but for the first of them
pub top_passed : {A : Type 0} (xs : List A) (n : ℕ) → n ≡ length xs - 1 → drop 1 (reverse xs) ≡ reverse (take n xs)
top_passed [] n e = ap (λ k. reverse (take k [])) (sym e)
top_passed (x ∷ xs) n e = drop_turned (x ∷ xs) n 1 (omega (arith, e))

next_turned : {A : Type 0} (xs : List A) (place : ℕ) (x : A) → place < length xs → x ≡ get_or xs place x → reverse (take (place + 1) xs) ≡ x ∷ reverse (take place xs)
next_turned xs place x within e =
    ap reverse (take_more xs place x within)
    ∙ reverse-append (take place xs) (get_or xs place x ∷ [])
    ∙ ap (λ y. y ∷ reverse (take place xs)) (sym e)

module _ (x : Ident) (frames : List Frame) (place : ℕ) (frame : Frame) (within : place < length frames) (read : frame ≡ get_or frames place frame) where
  abbrev rest : List Frame
  rest = reverse (take place frames)

  step : (next : ℕ) → next ≡ place + 1 → unwound x (reverse (take next frames)) ≡ unwound_at x frame.environment frame.code rest (unwound x rest)
  step next n = ap (λ k. unwound x (reverse (take k frames))) n ∙ ap (unwound x) (next_turned frames place frame within read)

  -- a mark
  pub landed : (handler stack : List Frame) (count next : ℕ) → HandlerOf x frame (Some handler) → reverse frames ≡ stack → place + count ≡ length frames → next ≡ place + 1
      → unwound x (reverse (take next frames)) ≡ Some (handler ++ drop count stack)
  landed handler stack count next h e c n =
      step next n ∙ h rest (unwound x rest)
      ∙ ap (λ (fs : List Frame). Some (handler ++ fs)) (sym (drop_turned frames place count c) ∙ ap (drop count) e)
