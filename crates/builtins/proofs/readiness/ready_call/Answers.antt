use Rattle.std.proofs.Common.{◌≡◌, ◌∙◌, length, sym, subst}
use Rattle.std.proofs.lemmas.Result.{IfOk-weaker}
use Rattle.oz_semantics.specs.Answers.{argument}
use Rattle.oz_semantics.specs.Builtins.{arguments_of}
use Rattle.oz_semantics.specs.Readiness.{answer_ready}
use Rattle.builtins.specs.Answers.{IsReady}
use Rattle.builtins.proofs.AnswerLaws.{call_is}
use Rattle.builtins.proofs.ReadyLaws.{inputs_in}
use Rattle.builtins.proofs.readiness.ready_call.Goals as goal

pub returns : goal.returns
returns c =
    let xs = c.args.arguments.now in
    let e : length xs ≡ arguments_of c.args.builtin = c.if-arguments-arguments_of.false ∙ c.arguments_of.ensures in
    IfOk-weaker c.ready_given.result _ _
    (λ r h statements. subst (λ b. IsReady c.args.store.now (answer_ready b) r) (sym (call_is (record { statements = statements; space = c.args.space.now; view = c.args.store.now }) c.args.builtin xs e))
    (h statements (argument xs) (inputs_in c.args.builtin xs _ _ e c.index-arguments-0.is c.argument_or.ensures)))
    c.ready_given.ensures
