use Rattle.std.proofs.Common.{rules, pos, ◌+ℤ◌, ◌≡◌, arith, get_or, FitsSigned, to_z, of_z, to_z-of_z, w64}
use Rattle.std.proofs.lemmas.Int.{ints}
use Rattle.oz_base.specs.declared.interval.Interval.{Interval}
use Rattle.fd_domain.proofs.CoveringLaws.{ends_at, walk_on}
use Rattle.fd_domain.proofs.covering.end_of.Goals as goal

pub returns-then-high-top : goal.returns-then-high-top
returns-then-high-top c =
    let nothing : Interval = record { low = pos 0; high = pos 0 } in
    let i = get_or c.args.intervals.now c.in-Some.found nothing in
    let top : FitsSigned w64 i.high = search rules in
    let low = c.ranges.low in
    let high = c.ranges.high in
    let test = simp to_z-of_z at c.if-high-top.true in
    let walk = simp to_z-of_z at c.walk.invariant in
    ends_at c.args.intervals.now c.args.low (to_z w64 c.walk.value-bits) c.args.high c.in-Some.found c.in-Some.ensures (omega (arith, ints, test)) walk.2 walk.3

pub walk-preserved : goal.walk-preserved
walk-preserved c =
    let nothing : Interval = record { low = pos 0; high = pos 0 } in
    let i = get_or c.args.intervals.now c.in-Some.found nothing in
    let top : FitsSigned w64 i.high = search rules in
    let high = c.ranges.high in
    let test = simp to_z-of_z at c.if-high-top.false in
    let next : to_z w64 (of_z w64 (to_z w64 (of_z w64 i.high) +ℤ pos 1)) ≡ i.high +ℤ pos 1 = omega (arith, ints) in
    walk_on c.args.intervals.now (to_z w64 (of_z w64 c.args.low)) (to_z w64 c.walk.value-bits) (to_z w64 (of_z w64 c.args.high)) _ c.in-Some.found c.in-Some.ensures (omega (arith, ints, test)) next c.walk.invariant.1 c.walk.invariant.3
