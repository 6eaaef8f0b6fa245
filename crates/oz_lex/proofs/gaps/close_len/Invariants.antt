use Rattle.std.proofs.Common.{◌≡◌, ◌≤◌, ◌-◌, length, drop}
use Rattle.oz_language.specs.Tokens.{close_length}
use Rattle.oz_lex.proofs.Closings.{behind}
use Rattle.oz_lex.proofs.gaps.close_len.Given as goal

abbrev pub invariant-loop-n : goal.invariant-loop-n
invariant-loop-n l = record {
  within : l.n ≤ length l.text;
  far : close_length l.text ≡ behind l.n (close_length (drop l.n l.text));
}

abbrev pub decreases-loop-n : goal.decreases-loop-n
decreases-loop-n l = length l.text - l.n
