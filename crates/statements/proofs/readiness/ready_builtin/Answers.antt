use Rattle.std.proofs.Common.{◌≡◌, ◌∙◌, length, sym, ap}
use Rattle.std.proofs.lemmas.Result.{IfOk-weaker}
use Rattle.oz_semantics.specs.Sights.{Sight}
use Rattle.oz_semantics.specs.Answers.{argument}
use Rattle.oz_semantics.specs.Builtins.{arguments_of}
use Rattle.oz_semantics.specs.Readiness.{answer_ready}
use Rattle.statements.specs.Variables.{variables_of}
use Rattle.statements.proofs.CallLaws.{call_is}
use Rattle.statements.proofs.ReadyLaws.{ready_along, inputs_at}
use Rattle.statements.proofs.readiness.ready_builtin.Goals as goal

pub returns : goal.returns
returns c =
    let b = c.args.builtin in
    let xs = variables_of c.args.arguments.now in
    let e : length xs ≡ arguments_of b = sym c.len.ensures ∙ c.if-len-count.false ∙ c.arguments_of-count.ensures in
    IfOk-weaker c.ready_given.result _ _
    (λ r h statements.
    let s : Sight = record { statements = statements; space = c.args.space.now; view = c.args.store.now } in
    ready_along c.args.store.now _ _ r (sym (ap answer_ready (call_is s b xs e)))
    (h statements (argument xs)
    (inputs_at b xs c.at-first.result.now c.at-second.result.now c.at-first.ensures c.at-second.ensures)))
    c.ready_given.ensures
