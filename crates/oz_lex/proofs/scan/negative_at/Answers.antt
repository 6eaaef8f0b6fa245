use Rattle.std.proofs.Common.{sym, ap, ◌∙◌, arith}
use Rattle.std.specs.List.{prefix_len}
use Rattle.oz_language.specs.Tokens.{is_digit}
use Rattle.oz_lex.proofs.Closings.{tail}
use Rattle.oz_lex.proofs.Longest.{negative_longest, negative_none}
use Rattle.oz_lex.proofs.scan.negative_at.Goals as goal

pub returns-then-digits-eq0 : goal.returns-then-digits-eq0
returns-then-digits-eq0 c =
    negative_none c.args.text.now c.requires (ap (prefix_len is_digit) (sym (tail c.args.text.now 1)) ∙ sym c.digit_len-digits.ensures.value ∙ c.if-digits-eq0.true)

pub returns : goal.returns
returns c =
    negative_longest c.args.text.now c.requires c.digit_len-digits.result (c.digit_len-digits.ensures.value ∙ ap (prefix_len is_digit) (tail c.args.text.now 1)) (omega arith)
