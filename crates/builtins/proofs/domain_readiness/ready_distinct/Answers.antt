use Rattle.std.proofs.Common.{◌∙◌}
use Rattle.builtins.proofs.DomainLaws.{awaited_so}
use Rattle.builtins.proofs.ReadyLaws.{ready_so}
use Rattle.builtins.proofs.domain_readiness.ready_distinct.Goals as goal

pub returns : goal.returns
returns c =
    ready_so c.args.store.now _ _ c.ready_by.result
    (awaited_so (λ xs. xs.items) c.in_ok-vector.field-0 _ _ (c.as_ref.ensures.value ∙ c.awaited_by-awaited.ensures) c.in_ok-vector.ensures) c.ready_by.ensures
