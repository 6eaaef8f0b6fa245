use Rattle.std.proofs.Common.{◌∙◌, ap, map}
use Rattle.std.proofs.lemmas.Result.{IfOk-weaker}
use Rattle.environments.specs.Environments.{bound}
use Rattle.oz_semantics.specs.Statements.{called}
use Rattle.builtins.specs.Exact.{erased}
use Rattle.statements.proofs.statement.calls.Goals as goal

pub returns : goal.returns
returns c =
    let xs = map (bound c.args.environment.now) c.args.names.now in
    IfOk-weaker c.called.result _ _
    (λ a h statements. h statements
    ∙ ap (λ x. erased (called (record { statements = statements; space = c.args.space.now; view = c.args.store.now }) x xs)) c.look-procedure.ensures)
    c.called.ensures
