use Rattle.std.proofs.Common.{◌≡◌, ◌++◌, ◌+◌, drop, map}
use Rattle.oz_semantics.specs.Builtins.{rows}
use Rattle.oz_semantics.specs.Runs.{builtin_tells}
use Rattle.builtins.specs.Tables.{row_of}
use Rattle.oz_machine.proofs.opening.built_ins.Given as goal

-- the tells of those passed so far, and then of the others
abbrev pub invariant-rows : goal.invariant-rows
invariant-rows l = record {
  these : map row_of l.row-items ≡ rows;
  count : l.number ≡ l.row-index;
  told : l.tells.items ++ builtin_tells (l.row-index + 1) (drop l.row-index (map row_of l.row-items)) ≡ builtin_tells 1 rows;
}
