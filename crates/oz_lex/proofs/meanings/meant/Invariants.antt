use Rattle.std.proofs.Common.{◌≡◌, ◌++◌, drop}
use Rattle.oz_language.specs.Wording.{meant}
use Rattle.oz_lex.proofs.MeaningLaws.{meant_from}
use Rattle.oz_lex.proofs.meanings.meant.Given as goal

abbrev pub invariant-loop-byte : goal.invariant-loop-byte
invariant-loop-byte l = l.word.items ++ meant_from l.behind (drop l.byte-index l.bytes) ≡ meant l.bytes
