-- What a search finds.
use Rattle.std.specs.Prelude.{ℕ, List, Option}
use Rattle.oz_search.specs.Histories.{History}
use Rattle.oz_search.specs.Leaves as noted
use Rattle.oz_search.specs.Plain.{outcomes, itself}
use Rattle.oz_search.specs.declared.leaf.Outcome.{Outcome}
use Rattle.machine_search.specs.Visits.{found_below, leaves_of}
use Rattle.recompute.specs.Origins.{Origin, tree_of}
use Rattle.search_law.specs.Law.{HoldsTree, StopsRightly}
use Rattle.search_crew.specs.Crews.{IsOver}

-- the leaves below the root from left to right. None where the tree takes more steps than there are for the search
abbrev pub answer_of : Origin → Option (List Outcome)
answer_of o = leaves_of (found_below o.kernel o.space o.config o.budget)

-- the unfailed leaves of a history
abbrev pub leaves_in : History ℕ Outcome → List (List ℕ × Outcome)
leaves_in h = noted.leaves_of outcomes h

-- the history of a search at its end
pub record Closes (o : Origin) (h : History ℕ Outcome) : Type 0 where
  pub finished : HoldsTree outcomes itself (tree_of o o.budget) o.budget h
  pub spent : StopsRightly outcomes itself (tree_of o o.budget) o.budget h
  pub over : IsOver outcomes h
