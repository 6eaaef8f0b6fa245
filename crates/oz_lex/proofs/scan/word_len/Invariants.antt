use Rattle.std.proofs.Common.{◌≡◌, ◌+◌, drop}
use Rattle.std.specs.List.{prefix_len}
use Rattle.oz_language.specs.Tokens.{goes_on_word}
use Rattle.oz_lex.proofs.scan.word_len.Given as goal

abbrev pub invariant-loop-place : goal.invariant-loop-place
invariant-loop-place l = l.place + prefix_len goes_on_word (drop l.place l.text) ≡ prefix_len goes_on_word l.text
