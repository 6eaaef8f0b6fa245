use Rattle.std.proofs.Common.{◌≡◌, ◌∙◌, length, sym, subst}
use Rattle.std.proofs.lemmas.Result.{IfOk-weaker}
use Rattle.oz_semantics.specs.Sights.{Sight}
use Rattle.oz_semantics.specs.Answers.{argument}
use Rattle.oz_semantics.specs.Builtins.{arguments_of, call_answer}
use Rattle.builtins.specs.Answers.{IsAnswer}
use Rattle.statements.specs.Variables.{variables_of}
use Rattle.statements.proofs.CallLaws.{said_as, call_is, given_at}
use Rattle.statements.proofs.calls.builtin_called.Goals as goal

pub returns : goal.returns
returns c =
    let b = c.args.builtin in
    let xs = variables_of c.args.arguments.now in
    let e : length xs ≡ arguments_of b = sym c.len.ensures ∙ c.if-len-count.false ∙ c.arguments_of-count.ensures in
    IfOk-weaker c.answer_given.result _ _
    (λ a h statements.
    let s : Sight = record { statements = statements; space = c.args.space.now; view = c.args.store.now } in
    said_as (call_answer s b xs) a
    (subst (λ w. IsAnswer w a) (sym (call_is s b xs e))
    (h statements (argument xs)
    (given_at b xs c.at-first.result.now c.at-second.result.now c.at-third.result.now c.at-first.ensures c.at-second.ensures c.at-third.ensures))))
    c.answer_given.ensures
