use Rattle.std.proofs.Common.{sym, ◌∙◌, ap, to_z-of_z}
use Rattle.std.specs.List.{list_any}
use Rattle.std.specs.FinSet as set
use Rattle.fd_domain.specs.Parts.{interval_has}
use Rattle.fd_domain.proofs.IntervalLaws.{contains-is}
use Rattle.fd_domain.proofs.domain.Domain.has_integer.Goals as goal

pub returns : goal.returns
returns c =
    let fits = c.ranges.value in
    let found = simp to_z-of_z at c.any_has_integer.ensures in
    record { has = found ∙ ap (list_any (interval_has c.args.value)) c.as_slice.ensures.value ∙ sym (contains-is c.self.inside.intervals.items c.args.value) ∙ ap (λ s. set.contains s c.args.value) c.self.view_is }
