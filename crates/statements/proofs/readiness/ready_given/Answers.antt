use Rattle.std.proofs.Common.{ap, sym, option_copied}
use Rattle.std.proofs.lemmas.Result.{IfOk-weaker}
use Rattle.oz_semantics.specs.Sights.{Sight}
use Rattle.oz_semantics.specs.Answers.{given}
use Rattle.oz_semantics.specs.Readiness.{answer_ready}
use Rattle.oz_semantics.specs.Statements.{value_called}
use Rattle.statements.specs.Variables.{variables_of}
use Rattle.statements.proofs.ReadyLaws.{ready_along}
use Rattle.statements.proofs.readiness.ready_given.Goals as goal

pub returns-in-None : goal.returns-in-None
returns-in-None c =
    IfOk-weaker c.ready_by.result _ _
    (λ r h statements.
    let s : Sight = record { statements = statements; space = c.args.space.now; view = c.args.store.now } in
    ready_along c.args.store.now _ _ r (ap (λ o. answer_ready (given c.args.procedure.now (option_copied o) (value_called s (variables_of c.args.arguments.now)))) (sym c.in-None.is)) (h c.args.store.now))
    c.ready_by.ensures

pub returns-in-Some : goal.returns-in-Some
returns-in-Some c =
    IfOk-weaker c.ready_value.result _ _
    (λ r h statements.
    let s : Sight = record { statements = statements; space = c.args.space.now; view = c.args.store.now } in
    ready_along c.args.store.now _ _ r (ap (λ o. answer_ready (given c.args.procedure.now (option_copied o) (value_called s (variables_of c.args.arguments.now)))) (sym c.in-Some.is)) (h statements))
    c.ready_value.ensures
