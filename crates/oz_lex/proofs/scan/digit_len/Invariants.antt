use Rattle.std.proofs.Common.{◌≡◌, ◌+◌, drop}
use Rattle.std.specs.List.{prefix_len}
use Rattle.oz_language.specs.Tokens.{is_digit}
use Rattle.oz_lex.proofs.scan.digit_len.Given as goal

abbrev pub invariant-loop-place : goal.invariant-loop-place
invariant-loop-place l = l.place + prefix_len is_digit (drop l.place l.text) ≡ prefix_len is_digit l.text
