use Rattle.space_core.proofs.FiringLaws.{nothing_yet, began_more, changed_err, changed_so_far}
use Rattle.space_core.proofs.firing.begin_all.Goals as goal

pub loop-trigger-init : goal.loop-trigger-init
loop-trigger-init c = nothing_yet _

pub loop-trigger-preserved : goal.loop-trigger-preserved
loop-trigger-preserved c =
    began_more c.args.triggers.now c.loop-trigger.trigger-index c.trigger-item.result _ _ _ c.loop-trigger-test.true c.trigger-item.is c.loop-trigger.invariant c.in_ok-begin.ensures.ok

pub returns-in_err-begin-clause-err : goal.returns-in_err-begin-clause-err
returns-in_err-begin-clause-err c = changed_err c.from_residual.result _ _ (changed_so_far _ _ _ _ c.loop-trigger.invariant c.in_err-begin.ensures.err)
