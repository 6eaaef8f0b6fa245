use Rattle.std.proofs.Common.{◌≤◌, ◌∙◌, length, drop, sym, ap, subst, arith}
use Rattle.oz_lex.specs.Scanning.{char_length}
use Rattle.oz_lex.proofs.Closings.{tail}
use Rattle.oz_lex.proofs.Openings.{char_longest, char_none}
use Rattle.oz_lex.proofs.scan.char_at.Goals as goal

pub returns-then-len-eq0 : goal.returns-then-len-eq0
returns-then-len-eq0 c =
    let text = c.args.text.now in
    char_none text c.requires (sym c.if-len-eq0.true ∙ c.char_len-len.ensures.value ∙ ap char_length (tail text 1))

pub returns : goal.returns
returns c =
    let text = c.args.text.now in
    let n = c.char_len-len.result in
    let w : n ≤ length (drop 1 text) = subst (λ xs. n ≤ length xs) (tail text 1) c.char_len-len.ensures.within in
    char_longest text c.requires n (c.char_len-len.ensures.value ∙ ap char_length (tail text 1)) w (omega arith)
