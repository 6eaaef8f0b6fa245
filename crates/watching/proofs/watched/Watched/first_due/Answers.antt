use Rattle.std.proofs.Common.{sym}
use Rattle.watching.proofs.PlaceLaws.{first_found, first_passed, first_none}
use Rattle.watching.proofs.watched.Watched.first_due.Goals as goal

pub returns-then-is_due_at : goal.returns-then-is_due_at
returns-then-is_due_at c =
    λ t. first_found c.args.store.now c.args.propagators.now c.args.self.now.due c.as_slice-index-items.result.now c.loop-index.index-index c.as_slice-index-items.ensures c.loop-index-test.true
    t.ascends (c.loop-index.invariant t) (sym c.if-is_due_at.ensures)

pub loop-index-preserved : goal.loop-index-preserved
loop-index-preserved c =
    λ t. first_passed c.args.store.now c.args.propagators.now c.args.self.now.due c.as_slice-index-items.result.now c.loop-index.index-index c.as_slice-index-items.ensures c.loop-index-test.true
    (c.loop-index.invariant t) (sym c.if-is_due_at.ensures)

pub returns : goal.returns
returns c =
    λ t. first_none c.args.store.now c.args.propagators.now c.args.self.now.due c.as_slice-index-items.result.now c.loop-index.index-index c.as_slice-index-items.ensures c.loop-index-test.false (c.loop-index.invariant t)
