use Rattle.kernel_output.proofs.CellLaws.{codes_loop, codes_next}
use Rattle.kernel_output.proofs.strings.codes_of.Goals as goal

pub bytes-preserved : goal.bytes-preserved
bytes-preserved c = (
  codes_loop _ _ _ _ _ _ _ c.args.bytes.now c.bytes.byte-index _ _ c.bytes-test.true c.in_ok-tail.ensures.cells c.in_ok-tail.ensures.output c.in_ok-tail.ensures.next c.in_ok-tail.ensures.tail c.bytes.invariant.0,
  codes_next _ _ _ _ _ c.args.bytes.now c.bytes.byte-index c.bytes-test.true c.in_ok-tail.ensures.next c.in_ok-tail.ensures.tail c.bytes.invariant.1,
)
