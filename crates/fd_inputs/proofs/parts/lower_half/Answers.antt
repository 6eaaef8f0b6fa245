use Rattle.std.proofs.Common.{rules, w64, to_z-of_z, FitsSigned}
use Rattle.fd_inputs.proofs.PartLaws.{first_half}
use Rattle.fd_inputs.proofs.parts.lower_half.Goals as goal

pub returns : goal.returns
returns c =
    let fits : FitsSigned w64 c.args.value = search rules in
    let high = rw c.in_ok-part.ensures at (simp to_z-of_z at c.cut_above.ensures.kept) in
    first_half c.args.value c.args.domain.now c.cut_above.new.self c.cut_above.result c.requires high
