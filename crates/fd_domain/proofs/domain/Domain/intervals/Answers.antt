use Rattle.std.proofs.Common.{◌∙◌, ◌-ℤ◌, pos}
use Rattle.oz_base.specs.declared.interval.TheConstants.{LEAST_VALUE, GREATEST_VALUE}
use Rattle.fd_domain.proofs.MemberLaws.{apart_are}
use Rattle.fd_domain.proofs.domain.Domain.intervals.Goals as goal

pub returns-clause-exact : goal.returns-clause-exact
returns-clause-exact c = c.as_slice.ensures.value ∙ apart_are (LEAST_VALUE -ℤ pos 1) GREATEST_VALUE c.self.inside.intervals.items c.args.self.now c.self.view_is c.self.invariant.apart
