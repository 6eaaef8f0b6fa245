use Rattle.std.proofs.Common.{subst}
use Rattle.fd_domain.specs.Covering.{HasAll, LacksOne}
use Rattle.fd_domain.proofs.CoveringLaws.{within_is}
use Rattle.fd_domain.proofs.domain.Domain.is_within.Goals as goal

pub returns : goal.returns
returns c = record {
  within =
      within_is c.args.self.now c.self.inside.intervals.items c.args.intervals.now c.have_all.result c.self.view_is
      (λ e. subst (HasAll c.args.intervals.now) c.as_slice.ensures.value (c.have_all.ensures.all e))
      (λ e. subst (LacksOne c.args.intervals.now) c.as_slice.ensures.value (c.have_all.ensures.not e));
}
