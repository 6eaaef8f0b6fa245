use Rattle.std.proofs.Common.{◌∙◌, ap}
use Rattle.fd_inputs.specs.Answers.{bounds_of}
use Rattle.builtins.specs.Looks.{awaited_by}
use Rattle.builtins.proofs.DomainLaws.{both_awaited}
use Rattle.builtins.proofs.ReadyLaws.{ready_so}
use Rattle.builtins.proofs.domain_readiness.ready_bound_each.Goals as goal

pub returns : goal.returns
returns c =
    ready_so c.args.store.now _ _ c.ready_by.result
    (both_awaited (λ xs. xs.items) bounds_of c.in_ok-variables.variables c.in_ok-bounds.bounds _ _ _
    (c.as_ref.ensures.value ∙ c.awaited_by-awaited.ensures ∙ ap awaited_by c.both.ensures) c.in_ok-variables.ensures c.in_ok-bounds.ensures)
    c.ready_by.ensures
