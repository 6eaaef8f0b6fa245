use Rattle.std.proofs.Common.{arith}
use Rattle.oz_semantics.specs.Settling.{runnable_in}
use Rattle.stability.proofs.PlaceLaws.{gathered_more}
use Rattle.stability.proofs.whole.runnable.Goals as goal

pub loop-place-preserved : goal.loop-place-preserved
loop-place-preserved c =
    gathered_more (runnable_in c.args.statements.now c.args.levels.now) c.args.levels.now c.loop-place.place (omega arith) _ _ _ c.loop-place.invariant
    (λ l e. c.in_ok-add_runnable.ensures c.in_ok-states.ensures l e)
