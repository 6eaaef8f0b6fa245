use Rattle.std.proofs.Common.{ap, sym}
use Rattle.std.proofs.lemmas.Result.{IfOk-weaker}
use Rattle.oz_semantics.specs.Sights.{Sight}
use Rattle.oz_semantics.specs.Readiness.{answer_ready}
use Rattle.oz_semantics.specs.Statements.{value_called}
use Rattle.oz_semantics.specs.declared.value.Value.{Value}
use Rattle.statements.specs.Variables.{variables_of}
use Rattle.statements.proofs.ReadyLaws.{ready_along}
use Rattle.statements.proofs.readiness.ready_value.Goals as goal

pub returns-in-Builtin : goal.returns-in-Builtin
returns-in-Builtin c =
    IfOk-weaker c.ready_builtin.result _ _
    (λ r h statements.
    let s : Sight = record { statements = statements; space = c.args.space.now; view = c.args.store.now } in
    ready_along c.args.store.now _ _ r (ap (λ (v : Value). answer_ready (value_called s (variables_of c.args.arguments.now) v)) (sym c.in-Builtin.is)) (h statements))
    c.ready_builtin.ensures
