use Rattle.std.proofs.Common.{◌∙◌, Option, ap, sym}
use Rattle.std.proofs.lemmas.Result.{IfOk-weaker}
use Rattle.oz_language.specs.declared.kernel.Statement.{Statement}
use Rattle.oz_semantics.specs.Sights.{Sight}
use Rattle.oz_semantics.specs.Readiness.{answer_ready}
use Rattle.oz_semantics.specs.Statements.{numbered_answer, code_answer}
use Rattle.oz_semantics.specs.declared.configuration.Code.{Code}
use Rattle.statements.proofs.ReadyLaws.{ready_along}
use Rattle.statements.proofs.readiness.ready_code.Goals as goal

pub returns-in-Statement : goal.returns-in-Statement
returns-in-Statement c =
    let e = c.args.frame.now.environment in
    IfOk-weaker c.ready_numbered.result _ _
    (λ r h.
    let s : Sight = record { statements = c.args.statements.now; space = c.args.space.now; view = c.args.store.now } in
    ready_along c.args.store.now _ _ r
    (ap (λ (o : Option Statement). answer_ready (numbered_answer s e o)) c.statement_at-statement.ensures ∙ ap (λ (k : Code). answer_ready (code_answer s e k)) (sym c.in-Statement.is))
    (h c.args.statements.now))
    c.ready_numbered.ensures

pub returns-in-Call : goal.returns-in-Call
returns-in-Call c =
    IfOk-weaker c.ready_called.result _ _
    (λ r h.
    let s : Sight = record { statements = c.args.statements.now; space = c.args.space.now; view = c.args.store.now } in
    ready_along c.args.store.now _ _ r (ap (λ (k : Code). answer_ready (code_answer s c.args.frame.now.environment k)) (sym c.in-Call.is)) (h c.args.statements.now))
    c.ready_called.ensures
