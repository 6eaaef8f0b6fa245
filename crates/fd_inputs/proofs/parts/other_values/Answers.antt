use Rattle.std.proofs.Common.{rules, w64, to_z-of_z, FitsSigned}
use Rattle.fd_inputs.proofs.PartLaws.{second_value}
use Rattle.fd_inputs.proofs.parts.other_values.Goals as goal

pub returns : goal.returns
returns c =
    let fits : FitsSigned w64 c.args.value = search rules in
    let others = rw c.in_ok-part.ensures at (simp to_z-of_z at c.in_ok-remove.ensures.kept) in
    second_value c.args.value c.args.domain.now c.remove.new.self c.in_ok-remove.field-0 c.requires others
