use Rattle.std.proofs.Common.{◌≡◌, ℕ, ◌≤◌, ◌<◌, ℤ, true, length}
use Rattle.oz_domains.specs.Domains.{among}
use Rattle.fd_domain.specs.Parts.{interval_at, interval_has}
use Rattle.fd_domain.proofs.covering.have_all.Given as goal

-- the intervals have all integers of those others that were passed
abbrev pub invariant-loop-other : goal.invariant-loop-other
invariant-loop-other l =
    (l.place ≤ length l.intervals) × ((j : ℕ) → j < l.other-index → (v : ℤ) → interval_has v (interval_at l.others j) ≡ true → among l.intervals v ≡ true)
