use Rattle.std.proofs.Common.{◌∷◌, [], List, take, subst, sym}
use Rattle.oz_base.specs.declared.names.Ident.{Ident}
use Rattle.suspension.specs.Sleeping.{FallsAsleep}
use Rattle.suspension.proofs.KeyLaws.{falls_more, taken_item}
use Rattle.suspension.proofs.sleepers.Sleepers.fall_asleep.Goals as goal

pub loop-variable-preserved : goal.loop-variable-preserved
loop-variable-preserved c =
    subst (λ (xs : List Ident). FallsAsleep c.args.store.now c.args.number xs c.args.self.now c.wait_for.new.self)
    (sym (taken_item c.args.variables.now c.loop-variable.variable-index c.variable-item.result c.loop-variable-test.true c.variable-item.is))
    (falls_more c.args.store.now c.args.number (take c.loop-variable.variable-index c.args.variables.now) (c.variable-item.result ∷ []) c.args.self.now c.loop-variable.self
    c.wait_for.new.self c.loop-variable.invariant c.in_ok-wait_for.ensures)
