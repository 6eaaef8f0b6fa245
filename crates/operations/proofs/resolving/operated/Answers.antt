use Rattle.std.proofs.lemmas.Result.{IfOk-weaker}
use Rattle.oz_semantics.specs.Operations.{operated}
use Rattle.operations.specs.Outcomes.{seeing}
use Rattle.operations.proofs.OutcomeLaws.{is_outcome}
use Rattle.operations.proofs.resolving.operated.Goals as goal

pub returns : goal.returns
returns c =
    IfOk-weaker c.operated_exactly.result _ _
    (λ o h statements own.
    is_outcome (operated (seeing statements own c.args.store.now) c.args.inner.now c.args.operation c.args.space.now c.args.argument.now c.args.state.now) o (h statements own))
    c.operated_exactly.ensures
