use Rattle.std.proofs.Common.{◌∙◌, ap, sym}
use Rattle.std.proofs.lemmas.Result.{IfOk-weaker}
use Rattle.environments.specs.Environments.{bound}
use Rattle.oz_semantics.specs.Store.{value_of}
use Rattle.oz_semantics.specs.Sights.{Steps}
use Rattle.builtins.specs.Looks.{awaiting}
use Rattle.statements.proofs.ReadyLaws.{ready_along, test_waits}
use Rattle.statements.proofs.readiness.ready_test.Goals as goal

pub returns : goal.returns
returns c =
    let view = c.args.store.now in
    let e = c.args.environment.now in
    IfOk-weaker c.ready_one.result _ _
    (λ r h accepted otherwise. ready_along view _ _ r
    (ap (λ x. awaiting x (value_of view x) Steps) c.look-condition.ensures ∙ sym (test_waits view (bound e c.args.condition) e accepted otherwise))
    h)
    c.ready_one.ensures
