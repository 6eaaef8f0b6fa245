use Rattle.std.proofs.Common.{◌≤◌, ◌-◌, length}
use Rattle.oz_lex.proofs.Readings.{Front}
use Rattle.oz_lex.proofs.lexer.lexemes.Given as goal

abbrev pub invariant-loop-at : goal.invariant-loop-at
invariant-loop-at l = record {
  within : l.at ≤ length l.text;
  so_far : Front l.text l.at l.lexemes.items;
}

abbrev pub decreases-loop-at : goal.decreases-loop-at
decreases-loop-at l = length l.text - l.at
