use Rattle.std.proofs.Common.{pos, ◌-ℤ◌, ◌≤ℤ◌, ◌↔◌, drop}
use Rattle.oz_base.specs.declared.interval.TheConstants.{LEAST_VALUE, GREATEST_VALUE}
use Rattle.oz_domains.specs.Domains.{AreApart}
use Rattle.fd_domain.proofs.covering.are_apart.Given as goal

-- those that were passed are apart
abbrev pub invariant-loop-interval : goal.invariant-loop-interval
invariant-loop-interval l =
    (l.least ≤ℤ pos 134217728) × (AreApart (l.least -ℤ pos 1) GREATEST_VALUE (drop l.interval-index l.intervals) ↔ AreApart (LEAST_VALUE -ℤ pos 1) GREATEST_VALUE l.intervals)
