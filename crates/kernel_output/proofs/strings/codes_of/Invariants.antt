use Rattle.std.proofs.Common.{◌≡◌, drop}
use Rattle.oz_language.specs.Translation.{codes_made}
use Rattle.kernel_output.specs.Cells.{all_closed}
use Rattle.kernel_output.specs.Outputs.{with_all}
use Rattle.kernel_output.proofs.strings.codes_of.Given as goal

abbrev pub invariant-bytes : goal.invariant-bytes
invariant-bytes l =
    (all_closed l.cells.open (with_all l.output (codes_made l.tail (drop l.byte-index l.bytes) l.numbers.next).code)
    ≡ with_all l.fn.output (codes_made l.fn.name l.bytes l.fn.numbers.next).code)
    × ((codes_made l.tail (drop l.byte-index l.bytes) l.numbers.next).next ≡ (codes_made l.fn.name l.bytes l.fn.numbers.next).next)
