use Rattle.std.proofs.Common.{◌≡◌, ◌∙◌, length, sym, subst}
use Rattle.std.proofs.lemmas.Result.{IfOk-weaker}
use Rattle.oz_semantics.specs.Answers.{argument}
use Rattle.oz_semantics.specs.Builtins.{arguments_of}
use Rattle.builtins.specs.Answers.{IsAnswer}
use Rattle.builtins.proofs.AnswerLaws.{call_is, given_in}
use Rattle.builtins.proofs.calls.answer_call.Goals as goal

pub returns : goal.returns
returns c =
    let xs = c.args.arguments.now in
    let e : length xs ≡ arguments_of c.args.builtin = c.if-arguments-arguments_of.false ∙ c.arguments_of.ensures in
    IfOk-weaker c.answer_given.result _ _
    (λ a h statements. subst (λ b. IsAnswer b a) (sym (call_is (record { statements = statements; space = c.args.space.now; view = c.args.store.now }) c.args.builtin xs e))
    (h statements (argument xs) (given_in c.args.builtin xs _ _ _ e c.index-arguments-0.is c.argument_or-second.ensures c.argument_or-third.ensures)))
    c.answer_given.ensures
