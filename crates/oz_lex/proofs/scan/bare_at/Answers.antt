use Rattle.std.proofs.Common.{◌≡◌, rules, true}
use Rattle.oz_language.specs.Tokens.{is_upper, is_digit}
use Rattle.oz_lex.specs.Scanning.{begins}
use Rattle.oz_lex.proofs.Longest.{var_longest, int_longest}
use Rattle.oz_lex.proofs.scan.bare_at.Goals as goal

pub returns-then-is_upper : goal.returns-then-is_upper
returns-then-is_upper c =
    let h : begins is_upper c.args.text.now ≡ true = search rules in
    var_longest c.args.text.now h c.word_len.result c.word_len.ensures.value

pub returns-then-is_digit : goal.returns-then-is_digit
returns-then-is_digit c =
    let h : begins is_digit c.args.text.now ≡ true = search rules in
    int_longest c.args.text.now h c.digit_len.result c.digit_len.ensures.value
