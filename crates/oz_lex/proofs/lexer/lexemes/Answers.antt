use Rattle.std.proofs.Common.{◌≡◌, ◌≤◌, ◌+◌, length, drop, subst, sym, ap, ◌∙◌, arith, length-drop, true, false}
use Rattle.std.proofs.lemmas.List.{drop-drop}
use Rattle.oz_language.specs.Tokens.{gap_length, IsLongest, is_broken_number}
use Rattle.oz_lex.specs.Scanning.{IsBadFront}
use Rattle.oz_lex.proofs.Readings.{Front, gap_step, token_step, bad_byte, bad_fraction, finished}
use Rattle.oz_lex.proofs.lexer.lexemes.Goals as goal

pub loop-at-preserved-then-gap-gt0 : goal.loop-at-preserved-then-gap-gt0
loop-at-preserved-then-gap-gt0 c =
    let text = c.args.text.now in
    let at = c.loop-at.at in
    let g = c.gap_len-gap.result in
    let w : g ≤ length (drop at text) = rw c.rest_of-rest.ensures at c.gap_len-gap.ensures.within in
    let v : g ≡ gap_length (drop at text) = c.gap_len-gap.ensures.value ∙ ap gap_length c.rest_of-rest.ensures in
    record {
      within = omega (arith, w, length-drop at text, c.loop-at-test.true);
      so_far = gap_step text at c.loop-at.lexemes.items c.loop-at.invariant.so_far c.loop-at-test.true g c.if-gap-gt0.true v;
    }

pub returns-in-Err-clause-bad : goal.returns-in-Err-clause-bad
returns-in-Err-clause-bad c =
    let text = c.args.text.now in
    let at = c.loop-at.at in
    let g = c.gap_len-gap.result in
    let away = c.in-Err.away in
    let v : g ≡ gap_length (drop at text) = c.gap_len-gap.ensures.value ∙ ap gap_length c.rest_of-rest.ensures in
    let f : IsBadFront (drop at text) away = subst (λ xs. IsBadFront xs away) c.rest_of-rest.ensures c.in-Err.ensures in
    bad_byte text at c.loop-at.lexemes.items c.loop-at.invariant.so_far c.loop-at-test.true g v c.if-gap-gt0.false away f.none f.place

pub returns-then-is_broken_number-clause-bad : goal.returns-then-is_broken_number-clause-bad
returns-then-is_broken_number-clause-bad c =
    let text = c.args.text.now in
    let at = c.loop-at.at in
    let g = c.gap_len-gap.result in
    let n = c.in-Ok.len in
    let s = c.in-Ok.sort in
    let v : g ≡ gap_length (drop at text) = c.gap_len-gap.ensures.value ∙ ap gap_length c.rest_of-rest.ensures in
    let t : IsLongest (drop at text) n s = subst (λ xs. IsLongest xs n s) c.rest_of-rest.ensures c.in-Ok.ensures in
    let d = c.rest_of.ensures ∙ ap (drop n) c.rest_of-rest.ensures ∙ drop-drop n at text in
    let b : is_broken_number s (drop (at + n) text) ≡ true = ap (is_broken_number s) (sym d) ∙ sym c.is_broken_number.ensures ∙ c.if-is_broken_number.true in
    bad_fraction text at c.loop-at.lexemes.items c.loop-at.invariant.so_far c.loop-at-test.true g v c.if-gap-gt0.false n s t b

pub loop-at-preserved : goal.loop-at-preserved
loop-at-preserved c =
    let text = c.args.text.now in
    let at = c.loop-at.at in
    let g = c.gap_len-gap.result in
    let n = c.in-Ok.len in
    let s = c.in-Ok.sort in
    let v : g ≡ gap_length (drop at text) = c.gap_len-gap.ensures.value ∙ ap gap_length c.rest_of-rest.ensures in
    let t : IsLongest (drop at text) n s = subst (λ xs. IsLongest xs n s) c.rest_of-rest.ensures c.in-Ok.ensures in
    let w = t.within in
    let d = c.rest_of.ensures ∙ ap (drop n) c.rest_of-rest.ensures ∙ drop-drop n at text in
    let b : is_broken_number s (drop (at + n) text) ≡ false = ap (is_broken_number s) (sym d) ∙ sym c.is_broken_number.ensures ∙ c.if-is_broken_number.false in
    record {
      within = omega (arith, w, length-drop at text, c.loop-at-test.true);
      so_far = subst (Front text (at + n)) (sym c.in_ok-push-in-Ok.ensures.items)
          (token_step text at c.loop-at.lexemes.items c.loop-at.invariant.so_far c.loop-at-test.true g v c.if-gap-gt0.false n s t b);
    }

pub returns-clause-found : goal.returns-clause-found
returns-clause-found c = finished c.args.text.now c.loop-at.at c.loop-at.lexemes.items c.loop-at.invariant.so_far c.loop-at-test.false
