use Rattle.std.proofs.Common.{◌≡◌, drop, sym, ap, ◌∙◌, subst}
use Rattle.oz_lex.specs.Scanning.{begins_with, step_length, is_cut_off, GoesOn}
use Rattle.oz_lex.proofs.QuoteLaws.{quoted_front, cut_front, wrong_front}
use Rattle.oz_lex.proofs.quotes.quoted_len.Goals as goal

pub returns-then-begins_with : goal.returns-then-begins_with
returns-then-begins_with c =
    let quote = c.args.quote in
    let n = c.inner_len-len.result in
    let inside = c.rest_of-inside.ensures in
    let behind = c.rest_of-behind.ensures ∙ ap (drop n) inside in
    let g = subst (λ xs. GoesOn quote xs n) inside c.inner_len-len.ensures.goes_on in
    quoted_front quote c.args.text.now c.requires n g (ap (begins_with quote) (sym behind) ∙ sym c.begins_with.ensures ∙ c.if-begins_with.true)

pub returns-then-is_cut_off : goal.returns-then-is_cut_off
returns-then-is_cut_off c =
    let quote = c.args.quote in
    let n = c.inner_len-len.result in
    let inside = c.rest_of-inside.ensures in
    let behind = c.rest_of-behind.ensures ∙ ap (drop n) inside in
    let g = subst (λ xs. GoesOn quote xs n) inside c.inner_len-len.ensures.goes_on in
    let s = subst (λ xs. step_length quote (drop n xs) ≡ 0) inside c.inner_len-len.ensures.stops in
    let b = ap (begins_with quote) (sym behind) ∙ sym c.begins_with.ensures ∙ c.if-begins_with.false in
    cut_front quote c.args.text.now c.requires n g s b (ap is_cut_off (sym behind) ∙ sym c.is_cut_off.ensures ∙ c.if-is_cut_off.true)

pub returns : goal.returns
returns c =
    let quote = c.args.quote in
    let n = c.inner_len-len.result in
    let inside = c.rest_of-inside.ensures in
    let behind = c.rest_of-behind.ensures ∙ ap (drop n) inside in
    let g = subst (λ xs. GoesOn quote xs n) inside c.inner_len-len.ensures.goes_on in
    let s = subst (λ xs. step_length quote (drop n xs) ≡ 0) inside c.inner_len-len.ensures.stops in
    let b = ap (begins_with quote) (sym behind) ∙ sym c.begins_with.ensures ∙ c.if-begins_with.false in
    wrong_front quote c.args.text.now c.requires n g s b (ap is_cut_off (sym behind) ∙ sym c.is_cut_off.ensures ∙ c.if-is_cut_off.false)
