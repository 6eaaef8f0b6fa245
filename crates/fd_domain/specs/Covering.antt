-- Whether intervals have all integers of others.
use Rattle.std.specs.Prelude.{◌≡◌, ℕ, ℤ, ◌≤ℤ◌, true, false, List}
use Rattle.oz_base.specs.declared.interval.Interval.{Interval}
use Rattle.oz_domains.specs.Domains.{among}
use Rattle.fd_domain.specs.Parts.{IsPlace}

-- each integer of the others
abbrev pub HasAll : List Interval → List Interval → Type 0
HasAll is others = (v : ℤ) → among others v ≡ true → among is v ≡ true

-- one integer of the others is in none of the intervals
pub record LacksOne (is others : List Interval) : Type 0 where
  pub value : ℤ
  pub there : among others value ≡ true
  pub missing : among is value ≡ false

-- one integer from low to high is in none of the intervals
pub record Lacks (is : List Interval) (low high : ℤ) : Type 0 where
  pub value : ℤ
  pub least : low ≤ℤ value
  pub greatest : value ≤ℤ high
  pub missing : among is value ≡ false

-- the intervals have each integer from low to high, and that at the place has the last
pub record Ends (is : List Interval) (low high : ℤ) (place : ℕ) : Type 0 where
  pub all : (v : ℤ) → low ≤ℤ v → v ≤ℤ high → among is v ≡ true
  pub last : IsPlace high is place
