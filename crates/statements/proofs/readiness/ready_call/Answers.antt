use Rattle.std.proofs.Common.{◌∙◌, List, ap, map}
use Rattle.std.proofs.lemmas.Result.{IfOk-weaker}
use Rattle.environments.specs.Environments.{bound}
use Rattle.oz_language.specs.declared.kernel.Identifier.{Identifier}
use Rattle.oz_semantics.specs.Sights.{Sight}
use Rattle.oz_semantics.specs.Readiness.{answer_ready}
use Rattle.oz_semantics.specs.Statements.{called}
use Rattle.statements.proofs.ReadyLaws.{ready_along}
use Rattle.statements.proofs.readiness.ready_call.Goals as goal

pub returns : goal.returns
returns c =
    let e = c.args.environment.now in
    IfOk-weaker c.ready_called.result _ _
    (λ r h statements.
    let s : Sight = record { statements = statements; space = c.args.space.now; view = c.args.store.now } in
    ready_along c.args.store.now _ _ r
    (ap (λ x. answer_ready (called s x (map (bound e) c.as_slice.result.now))) c.look-procedure.ensures
    ∙ ap (λ (ns : List Identifier). answer_ready (called s (bound e c.args.procedure) (map (bound e) ns))) c.as_slice.ensures)
    (h statements))
    c.ready_called.ensures
