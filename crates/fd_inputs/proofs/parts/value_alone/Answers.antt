use Rattle.std.proofs.Common.{rules, w64, to_z-of_z, FitsSigned}
use Rattle.fd_inputs.proofs.PartLaws.{first_value}
use Rattle.fd_inputs.proofs.parts.value_alone.Goals as goal

pub returns : goal.returns
returns c =
    let fits : FitsSigned w64 c.args.value = search rules in
    let low = rw c.in_ok-part.ensures at (simp to_z-of_z at c.cut_below.ensures.kept) in
    let high = simp to_z-of_z at c.cut_above.ensures.kept in
    first_value c.args.value c.args.domain.now c.cut_below.new.self c.cut_above.new.self c.cut_below.result c.cut_above.result c.requires low high
