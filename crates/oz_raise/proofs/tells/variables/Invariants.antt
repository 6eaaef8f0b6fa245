use Rattle.std.proofs.Common.{◌≡◌, ◌+◌, map}
use Rattle.std.specs.List.{range_with_len}
use Rattle.oz_semantics.specs.Names.{named}
use Rattle.oz_raise.proofs.tells.variables.Given as goal

abbrev pub invariant-loop-i : goal.invariant-loop-i
invariant-loop-i l = record { made : l.variables ≡ map (named l.space) (range_with_len l.from l.i); next : l.number ≡ l.from + l.i }
