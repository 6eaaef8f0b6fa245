use Rattle.std.proofs.Common.{◌∙◌, List, ap, sym, map}
use Rattle.std.proofs.lemmas.Result.{IfOk-weaker}
use Rattle.environments.specs.Environments.{bound}
use Rattle.oz_language.specs.declared.kernel.Identifier.{Identifier}
use Rattle.oz_semantics.specs.Sights.{Sight}
use Rattle.oz_semantics.specs.Builtins.{call_answer}
use Rattle.oz_semantics.specs.Statements.{called, statement_answer}
use Rattle.oz_semantics.specs.declared.value.Builtin.TheVariants.{Operation}
use Rattle.builtins.specs.Exact.{erased}
use Rattle.statements.proofs.CallLaws.{said_as}
use Rattle.statements.proofs.statement.answer_statement.Goals as goal

pub returns-in-Call : goal.returns-in-Call
returns-in-Call c =
    let e = c.args.environment.now in
    IfOk-weaker c.calls.result _ _
    (λ a h statements.
    let s : Sight = record { statements = statements; space = c.args.space.now; view = c.args.store.now } in
    h statements ∙ ap (λ (xs : List Identifier). erased (called s (bound e c.in-Call.procedure) (map (bound e) xs))) c.as_slice.ensures ∙ ap (λ st. erased (statement_answer s e st)) (sym c.in-Call.is))
    c.calls.ensures

pub returns-in-Operate : goal.returns-in-Operate
returns-in-Operate c =
    let e = c.args.environment.now in
    IfOk-weaker c.operates.result _ _
    (λ a h statements.
    let s : Sight = record { statements = statements; space = c.args.space.now; view = c.args.store.now } in
    h statements ∙ ap (λ (xs : List Identifier). erased (call_answer s (Operation c.in-Operate.operation) (map (bound e) xs))) c.as_slice-in-Operate.ensures
    ∙ ap (λ st. erased (statement_answer s e st)) (sym c.in-Operate.is))
    c.operates.ensures

pub returns-in-PostTimes : goal.returns-in-PostTimes
returns-in-PostTimes c =
    IfOk-weaker c.posts_times.result _ _
    (λ a h statements.
    let s : Sight = record { statements = statements; space = c.args.space.now; view = c.args.store.now } in
    said_as _ a h ∙ ap (λ st. erased (statement_answer s c.args.environment.now st)) (sym c.in-PostTimes.is))
    c.posts_times.ensures
