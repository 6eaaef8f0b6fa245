-- Plain search, for all leaves: a branch is its alternative alone (Schulte, LNCS 2302, on search).
use Rattle.std.specs.Prelude.{ℕ, nat_eq, Bool, true, false}
use Rattle.std.specs.Ordering.{nat_cmp}
use Rattle.oz_search.specs.declared.leaf.Outcome.{Outcome}
use Rattle.oz_search.specs.declared.leaf.Outcome.TheVariants.{Failed, Solved, Stuck, Raised, Suspended}
use Rattle.oz_search.specs.Searches.{Search}
use Rattle.oz_search.specs.Paths.{Taking}

-- the leaf is a failed node
abbrev pub is_failed : Outcome → Bool
is_failed Failed = true
is_failed (Solved t) = false
is_failed (Stuck t) = false
is_failed (Raised t) = false
is_failed Suspended = false

-- plain search, with any report of leaves
abbrev pub plain : {L : Type 0} → (L → Bool) → Search ℕ L
plain fails = record { number = λ i. i; free = λ i. i; same = nat_eq; cmp = nat_cmp; fails = fails; admits = λ h p. true }

-- each alternative is taken by itself
abbrev pub itself : Taking ℕ
itself p i = i

-- plain search, where a leaf is reported as an outcome
abbrev pub outcomes : Search ℕ Outcome
outcomes = plain is_failed
