use Rattle.std.proofs.Common.{rules, pos, get_or, arith, FitsSigned, w64}
use Rattle.std.proofs.lemmas.Int.{ints}
use Rattle.oz_base.specs.declared.interval.Interval.{Interval}
use Rattle.fd_domain.proofs.CoveringLaws.{have_to_end}
use Rattle.fd_domain.proofs.IntervalLaws.{within_at}
use Rattle.fd_domain.proofs.covering.have_all.Goals as goal

pub end_of-requires-clause-ordered : goal.end_of-requires-clause-ordered
end_of-requires-clause-ordered c =
    let nothing : Interval = record { low = pos 0; high = pos 0 } in
    let i = get_or c.args.others.now c.loop-other.other-index nothing in
    let low : FitsSigned w64 i.low = search rules in
    let high : FitsSigned w64 i.high = search rules in
    let order = (within_at _ _ c.args.others.now c.loop-other.other-index nothing c.requires c.loop-other-test.true).ordered in
    omega (arith, ints, order)

pub returns-clause-all : goal.returns-clause-all
returns-clause-all c e = have_to_end c.args.intervals.now c.args.others.now c.loop-other.other-index c.loop-other-test.false c.loop-other.invariant.1
