-- What the search for a best solution finds (branch and bound: Schulte, LNCS 2302, on search).
use Rattle.std.specs.Prelude.{◌≡◌, ℕ, ℤ, List, Some, None}
use Rattle.oz_search.specs.declared.best.Bounded.{Bounded}
use Rattle.oz_search.specs.declared.best.Costed.{Costed}
use Rattle.oz_search.specs.declared.history.Entry.TheVariants.{Leaf}
use Rattle.oz_search.specs.Nodes.{Fuelled}
use Rattle.oz_search.specs.Histories.{stop_of}
use Rattle.oz_search.specs.Best.{BestEntry, best_of}
use Rattle.oz_replies.specs.BestReplies.{solved, HasSolution, IsStopped, IsSearchOf}
use Rattle.best_search.specs.declared.ending.Found.{Found}
use Rattle.best_search.specs.declared.ending.Found.TheVariants as found

-- an entry is a leaf that is solved, with this text and this cost
abbrev pub IsSolution : List ℕ → ℤ → BestEntry → Type 0
IsSolution text cost e = (w : ℕ) × (q : List Bounded) × (s : ℕ) × (e ≡ Leaf w q (solved text cost) s)

-- what the history of a search with this budget has found: a leaf of the least cost, if nobody stopped and there is a solved leaf
abbrev pub IsFoundIn : ℕ → List BestEntry → Found → Type 0
IsFoundIn budget h (found.Best text cost) = (stop_of h ≡ None) × (best_of h ≡ Some cost) × HasSolution h text cost
IsFoundIn budget h found.NoSolution = (stop_of h ≡ None) × (best_of h ≡ None)
IsFoundIn budget h (found.Spent total entries) = (entries.items ≡ h) × IsStopped budget h total

-- what a search by so many workers has found: what one of its histories says that is over
pub record IsFoundBy (within : Fuelled Bounded Costed) (budget workers : ℕ) (answer : Found) : Type 0 where
  pub history : List BestEntry
  pub search : IsSearchOf within budget workers history
  pub found : IsFoundIn budget history answer
