use Rattle.std.proofs.Common.{ap, sym, option_copied}
use Rattle.std.proofs.lemmas.Result.{IfOk-weaker}
use Rattle.oz_semantics.specs.Sights.{Sight}
use Rattle.oz_semantics.specs.Readiness.{answer_ready}
use Rattle.oz_semantics.specs.Statements.{numbered_answer}
use Rattle.statements.proofs.ReadyLaws.{ready_along}
use Rattle.statements.proofs.readiness.ready_numbered.Goals as goal

pub returns-in-Some : goal.returns-in-Some
returns-in-Some c =
    IfOk-weaker c.ready_statement.result _ _
    (λ r h statements.
    let s : Sight = record { statements = statements; space = c.args.space.now; view = c.args.store.now } in
    ready_along c.args.store.now _ _ r (ap (λ o. answer_ready (numbered_answer s c.args.environment.now (option_copied o))) (sym c.in-Some.is)) (h statements))
    c.ready_statement.ensures
