use Rattle.oz_semantics.specs.Triggers.{is_needed}
use Rattle.by_need.proofs.WaitLaws.{made_more}
use Rattle.by_need.proofs.triggers.needed.Goals as goal

pub loop-trigger-preserved : goal.loop-trigger-preserved
loop-trigger-preserved c =
    made_more (is_needed c.args.store.now c.args.waited.now) c.args.triggers.now c.loop-trigger.trigger-index c.trigger-item.result c.loop-trigger.marks _ c.is_needed.result
    c.loop-trigger-test.true c.trigger-item.is c.loop-trigger.invariant c.in_ok-push.ensures.ok c.is_needed.ensures
