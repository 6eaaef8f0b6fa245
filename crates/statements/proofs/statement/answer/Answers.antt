use Rattle.std.proofs.Common.{◌∙◌, ap, sym, option_copied}
use Rattle.std.proofs.lemmas.Result.{IfOk-weaker}
use Rattle.oz_semantics.specs.Sights.{Sight}
use Rattle.oz_semantics.specs.Statements.{numbered_answer, code_answer}
use Rattle.builtins.specs.Exact.{erased}
use Rattle.builtins.specs.declared.answer.Answer.TheVariants.{Rests}
use Rattle.statements.proofs.CallLaws.{is_answer, numbered_so}
use Rattle.statements.proofs.statement.answer.Goals as goal

pub returns-in-None : goal.returns-in-None
returns-in-None c =
    let s : Sight = record { statements = c.args.statements.now; space = c.args.space.now; view = c.args.store.now } in
    let e = c.args.frame.now.environment in
    is_answer (code_answer s e c.args.frame.now.code) Rests
    (ap (λ r. erased (numbered_answer s e (option_copied r))) (sym c.in-None.is)
    ∙ numbered_so s e c.args.frame.now.code c.in-Statement.number (option_copied c.statement_at.result) c.statement_at.ensures c.in-Statement.is)

pub returns-in-Some : goal.returns-in-Some
returns-in-Some c =
    let s : Sight = record { statements = c.args.statements.now; space = c.args.space.now; view = c.args.store.now } in
    let e = c.args.frame.now.environment in
    IfOk-weaker c.answer_statement.result _ _
    (λ a h. is_answer _ a
    (h c.args.statements.now ∙ ap (λ r. erased (numbered_answer s e (option_copied r))) (sym c.in-Some.is)
    ∙ numbered_so s e c.args.frame.now.code c.in-Statement.number (option_copied c.statement_at.result) c.statement_at.ensures c.in-Statement.is))
    c.answer_statement.ensures

pub returns-in-Call : goal.returns-in-Call
returns-in-Call c =
    let s : Sight = record { statements = c.args.statements.now; space = c.args.space.now; view = c.args.store.now } in
    IfOk-weaker c.called.result _ _
    (λ a h. is_answer _ a (h c.args.statements.now ∙ ap (λ k. erased (code_answer s c.args.frame.now.environment k)) (sym c.in-Call.is)))
    c.called.ensures
