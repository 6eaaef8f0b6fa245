use Rattle.std.proofs.Common.{ap, sym}
use Rattle.std.proofs.lemmas.Result.{IfOk-weaker}
use Rattle.oz_language.specs.declared.kernel.Statement.{Statement}
use Rattle.oz_semantics.specs.Sights.{Sight}
use Rattle.oz_semantics.specs.Readiness.{answer_ready}
use Rattle.oz_semantics.specs.Statements.{statement_answer}
use Rattle.statements.proofs.ReadyLaws.{ready_along, offers_all}
use Rattle.statements.proofs.readiness.ready_statement.Goals as goal

pub returns-in-Call : goal.returns-in-Call
returns-in-Call c =
    IfOk-weaker c.ready_call.result _ _
    (λ r h statements.
    let s : Sight = record { statements = statements; space = c.args.space.now; view = c.args.store.now } in
    ready_along c.args.store.now _ _ r (ap (λ (st : Statement). answer_ready (statement_answer s c.args.environment.now st)) (sym c.in-Call.is)) (h statements))
    c.ready_call.ensures

pub returns-in-Operate : goal.returns-in-Operate
returns-in-Operate c =
    IfOk-weaker c.ready_operation.result _ _
    (λ r h statements.
    let s : Sight = record { statements = statements; space = c.args.space.now; view = c.args.store.now } in
    ready_along c.args.store.now _ _ r (ap (λ (st : Statement). answer_ready (statement_answer s c.args.environment.now st)) (sym c.in-Operate.is)) (h statements))
    c.ready_operation.ensures

pub returns-in-If : goal.returns-in-If
returns-in-If c =
    IfOk-weaker c.ready_test.result _ _
    (λ r h statements.
    let s : Sight = record { statements = statements; space = c.args.space.now; view = c.args.store.now } in
    ready_along c.args.store.now _ _ r (ap (λ (st : Statement). answer_ready (statement_answer s c.args.environment.now st)) (sym c.in-If.is)) (h _ _))
    c.ready_test.ensures

pub returns-in-Case : goal.returns-in-Case
returns-in-Case c =
    IfOk-weaker c.ready_match.result _ _
    (λ r h statements.
    let s : Sight = record { statements = statements; space = c.args.space.now; view = c.args.store.now } in
    ready_along c.args.store.now _ _ r (ap (λ (st : Statement). answer_ready (statement_answer s c.args.environment.now st)) (sym c.in-Case.is)) (h _ _))
    c.ready_match.ensures

pub returns-in-Choice : goal.returns-in-Choice
returns-in-Choice c = λ statements.
    let s : Sight = record { statements = statements; space = c.args.space.now; view = c.args.store.now } in
    offers_all c.args.store.now (answer_ready (statement_answer s c.args.environment.now c.args.statement.now)) c.args.environment.now c.in-Choice.alternatives c.len.result _
    (ap (λ (st : Statement). answer_ready (statement_answer s c.args.environment.now st)) c.in-Choice.is) c.len.ensures c.new.ensures
