use Rattle.std.proofs.Common.{◌≡◌, ◌+◌, drop}
use Rattle.oz_language.specs.Tokens.{line_length}
use Rattle.oz_lex.proofs.gaps.line_len.Given as goal

abbrev pub invariant-loop-place : goal.invariant-loop-place
invariant-loop-place l = l.place + line_length (drop l.place l.text) ≡ line_length l.text
