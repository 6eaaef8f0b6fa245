use Rattle.propagation.proofs.DueLaws.{not_as_many, seen_no, seen_on}
use Rattle.propagation.proofs.due.are_as_seen.Goals as goal

pub returns-then-seen-variables : goal.returns-then-seen-variables
returns-then-seen-variables c = not_as_many c.args.store.now c.args.seen.now c.args.variables.now c.if-seen-variables.true

pub returns-then-not-is_as_seen : goal.returns-then-not-is_as_seen
returns-then-not-is_as_seen c =
    seen_no c.args.store.now c.args.seen.now c.args.variables.now c.loop-i.i c.as_slice.result.now c.index-variables-i.result c.is_as_seen.result _ c.loop-i-test.true c.loop-i.invariant.0
    (rw c.as_slice.ensures c.index-seen-i.is) c.index-variables-i.is c.is_as_seen.ensures c.if-not-is_as_seen.true c.loop-i.invariant.1

pub loop-i-preserved : goal.loop-i-preserved
loop-i-preserved c = (
  c.loop-i.invariant.0,
  seen_on c.args.store.now c.args.seen.now c.args.variables.now c.loop-i.i c.as_slice.result.now c.index-variables-i.result c.is_as_seen.result _ c.loop-i-test.true c.loop-i.invariant.0
      (rw c.as_slice.ensures c.index-seen-i.is) c.index-variables-i.is c.is_as_seen.ensures c.if-not-is_as_seen.false c.loop-i.invariant.1,
)
