use Rattle.std.proofs.Common.{ℕ, List, length}
use Rattle.oz_search.specs.Leaves.{Names}
use Rattle.oz_search.specs.Plain.{outcomes}
use Rattle.oz_search.specs.declared.leaf.Outcome.{Outcome}
use Rattle.search_all.proofs.LeafLaws.{Left}
use Rattle.search_all.proofs.ending.leaves_at.Given as goal

-- those that were taken, and those that are left
abbrev pub invariant-places : goal.invariant-places
invariant-places l = (ls : List (List ℕ × Outcome)) → Names outcomes l.entries l.initial.places.entries ls → Left l.entries l.places.entries l.leaves ls

abbrev pub decreases-places : goal.decreases-places
decreases-places l = length l.places.entries
