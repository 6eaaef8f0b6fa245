use Rattle.std.proofs.Common.{List, ap, map}
use Rattle.std.proofs.lemmas.Result.{IfOk-weaker}
use Rattle.environments.specs.Environments.{bound}
use Rattle.oz_language.specs.declared.kernel.Identifier.{Identifier}
use Rattle.oz_semantics.specs.Sights.{Sight}
use Rattle.oz_semantics.specs.Builtins.{call_answer}
use Rattle.oz_semantics.specs.Readiness.{answer_ready}
use Rattle.oz_semantics.specs.declared.value.Builtin.TheVariants.{Operation}
use Rattle.statements.proofs.ReadyLaws.{ready_along}
use Rattle.statements.proofs.readiness.ready_operation.Goals as goal

pub returns : goal.returns
returns c =
    IfOk-weaker c.ready_builtin.result _ _
    (λ r h statements.
    let s : Sight = record { statements = statements; space = c.args.space.now; view = c.args.store.now } in
    ready_along c.args.store.now _ _ r (ap (λ (ns : List Identifier). answer_ready (call_answer s (Operation c.args.operation) (map (bound c.args.environment.now) ns))) c.as_slice.ensures) (h statements))
    c.ready_builtin.ensures
