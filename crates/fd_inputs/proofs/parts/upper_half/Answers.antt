use Rattle.std.proofs.Common.{rules, w64, to_z-of_z, FitsSigned}
use Rattle.fd_inputs.proofs.PartLaws.{second_half}
use Rattle.fd_inputs.proofs.parts.upper_half.Goals as goal

pub returns : goal.returns
returns c =
    let fits : FitsSigned w64 c.next_above-next.result = search rules in
    let value_fits : FitsSigned w64 c.args.value = search rules in
    let next = simp to_z-of_z at c.next_above-next.ensures in
    let above = rw c.in_ok-part.ensures at (simp to_z-of_z at c.cut_below.ensures.kept) in
    second_half c.args.value c.next_above-next.result c.args.domain.now c.cut_below.new.self c.cut_below.result next c.requires above
