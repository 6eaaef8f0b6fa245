use Rattle.std.proofs.Common.{Option, ap}
use Rattle.std.proofs.lemmas.Result.{IfOk-weaker}
use Rattle.oz_semantics.specs.Sights.{Sight}
use Rattle.oz_semantics.specs.Answers.{given}
use Rattle.oz_semantics.specs.Readiness.{answer_ready}
use Rattle.oz_semantics.specs.Statements.{value_called}
use Rattle.oz_semantics.specs.declared.value.Value.{Value}
use Rattle.statements.specs.Variables.{variables_of}
use Rattle.statements.proofs.ReadyLaws.{ready_along}
use Rattle.statements.proofs.readiness.ready_called.Goals as goal

pub returns : goal.returns
returns c =
    IfOk-weaker c.ready_given.result _ _
    (λ r h statements.
    let s : Sight = record { statements = statements; space = c.args.space.now; view = c.args.store.now } in
    ready_along c.args.store.now _ _ r (ap (λ (o : Option Value). answer_ready (given c.args.procedure.now o (value_called s (variables_of c.args.arguments.now)))) c.value-value.ensures) (h statements))
    c.ready_given.ensures
