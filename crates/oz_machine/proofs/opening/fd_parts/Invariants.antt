use Rattle.std.proofs.Common.{◌≡◌, ◌++◌, ◌+◌, drop, map}
use Rattle.oz_semantics.specs.Builtins.{rows}
use Rattle.oz_semantics.specs.Runs.{fd_parts}
use Rattle.builtins.specs.Tables.{row_of, worded, word_of}
use Rattle.oz_machine.proofs.opening.fd_parts.Given as goal

-- the fields of the rows passed so far, and then of the others
abbrev pub invariant-rows : goal.invariant-rows
invariant-rows l = record {
  these : map row_of l.row-items ≡ rows;
  words : map worded l.row-items ≡ map word_of rows;
  count : l.number ≡ l.row-index;
  features : l.parts.features.items ++ map (λ p. p.0) (fd_parts (l.row-index + 1) (drop l.row-index (map row_of l.row-items))) ≡ map (λ p. p.0) (fd_parts 1 rows);
  fields : l.parts.fields.items ++ map (λ p. p.1) (fd_parts (l.row-index + 1) (drop l.row-index (map row_of l.row-items))) ≡ map (λ p. p.1) (fd_parts 1 rows);
}
