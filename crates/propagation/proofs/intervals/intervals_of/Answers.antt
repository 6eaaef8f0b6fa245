use Rattle.std.proofs.Common.{rules, to_z-of_z, FitsSigned}
use Rattle.std.specs.Int.{w128}
use Rattle.fd_domain.proofs.MemberLaws.{intervals_single}
use Rattle.propagation.proofs.intervals.intervals_of.Goals as goal

pub returns-in-Integer : goal.returns-in-Integer
returns-in-Integer c =
    let fits : FitsSigned w128 c.in-Integer.integer = search rules in
    let made = simp to_z-of_z at c.intervals_of_one.ensures in
    rw (c.in-Integer.is, intervals_single c.in-Integer.integer) made
