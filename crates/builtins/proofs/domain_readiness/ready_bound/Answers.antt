use Rattle.std.proofs.Common.{◌∙◌}
use Rattle.fd_inputs.specs.Answers.{bounds_of}
use Rattle.builtins.proofs.DomainLaws.{awaited_so}
use Rattle.builtins.proofs.ReadyLaws.{ready_so}
use Rattle.builtins.proofs.domain_readiness.ready_bound.Goals as goal

pub returns : goal.returns
returns c =
    ready_so c.args.store.now _ _ c.ready_by.result
    (awaited_so bounds_of c.in_ok-bounds.field-0 _ _ (c.as_ref.ensures.value ∙ c.awaited_by-awaited.ensures) c.in_ok-bounds.ensures) c.ready_by.ensures
