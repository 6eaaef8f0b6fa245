use Rattle.std.proofs.Common.{◌≡◌, ◌≤◌, ℤ, pos, ◌+ℤ◌, ◌≤ℤ◌, ◌<ℤ◌, true, length}
use Rattle.std.specs.Int.{int_gap}
use Rattle.oz_domains.specs.Domains.{among}
use Rattle.fd_domain.proofs.covering.end_of.Given as goal

-- the intervals have all integers before the one that is looked for
abbrev pub invariant-walk : goal.invariant-walk
invariant-walk l =
    (l.place ≤ length l.intervals) × (l.low ≤ℤ l.value) × (l.value ≤ℤ l.high) × ((v : ℤ) → l.low ≤ℤ v → v <ℤ l.value → among l.intervals v ≡ true)

abbrev pub decreases-walk : goal.decreases-walk
decreases-walk l = int_gap l.value (l.high +ℤ pos 1)
