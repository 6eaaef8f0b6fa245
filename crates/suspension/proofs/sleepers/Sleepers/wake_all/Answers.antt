use Rattle.std.proofs.Common.{List, take, subst, sym}
use Rattle.oz_base.specs.declared.names.Ident.{Ident}
use Rattle.suspension.specs.Changes.{Waking}
use Rattle.suspension.proofs.KeyLaws.{taken_item}
use Rattle.suspension.proofs.sleepers.Sleepers.wake_all.Goals as goal

pub loop-variable-preserved : goal.loop-variable-preserved
loop-variable-preserved c =
    λ a. subst (λ (xs : List Ident). Waking c.args.store.now xs c.args.self.now c.wake_one.new.self c.wake_one.new.woken.items)
    (sym (taken_item c.args.touched.now c.loop-variable.variable-index c.variable-item.result c.loop-variable-test.true c.variable-item.is))
    (c.in_ok-wake_one.ensures c.args.self.now (take c.loop-variable.variable-index c.args.touched.now) a (c.loop-variable.invariant a))
