use Rattle.std.proofs.Common.{◌≡◌, ◌+◌, ◌≤◌, drop, length, map}
use Rattle.oz_semantics.specs.Builtins.{rows}
use Rattle.oz_semantics.specs.Runs.{builtin_names}
use Rattle.builtins.specs.Tables.{row_of, worded, word_of}
use Rattle.oz_machine.proofs.opening.builtin_names.Given as goal

-- the last ones are bound
abbrev pub invariant-rows : goal.invariant-rows
invariant-rows l = record {
  these : map row_of l.rows ≡ rows;
  words : map worded l.rows ≡ map word_of rows;
  within : l.left ≤ length l.rows;
  set : l.environment ≡ builtin_names (l.left + 1) (drop l.left (map row_of l.rows));
}

abbrev pub decreases-rows : goal.decreases-rows
decreases-rows l = l.left
