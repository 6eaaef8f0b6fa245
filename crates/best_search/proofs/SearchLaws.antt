-- What the history of a whole search tells of what is found.
use Rattle.std.proofs.Common.{◌≡◌, ◌⊎◌, ℕ, ◌<◌, List, Some, Result, Ok, Err, IfOk, subst}
use Rattle.std.specs.Prelude.{Contains}
use Rattle.oz_search.specs.declared.best.Bounded.{Bounded}
use Rattle.oz_search.specs.declared.best.Costed.{Costed}
use Rattle.oz_search.specs.declared.history.Halt.{Halt}
use Rattle.oz_search.specs.Nodes.{Fuelled}
use Rattle.oz_search.specs.Histories.{IsLegal, IsNothingOpen, IsNothingOut, stop_of, worker_of}
use Rattle.oz_search.specs.Best.{BestEntry, best}
use Rattle.best_search.specs.declared.ending.Found.{Found}
use Rattle.best_search.specs.Found.{IsFoundIn, IsFoundBy}

-- what the history has found is what the search has
pub found_by : {E : Type 0} (within : Fuelled Bounded Costed) (budget b workers : ℕ) (h : List BestEntry) (r : Result Found E) → b ≡ budget → IsLegal within best budget h → ((e : BestEntry) → Contains h e → worker_of e < workers)
    → ((IsNothingOpen best h × IsNothingOut best h) ⊎ ((x : Halt) × (stop_of h ≡ Some x)))
    → IfOk r (IsFoundIn b h) → IfOk r (IsFoundBy within budget workers)
found_by within budget b workers h (Ok found) e legal among over ok =
    record {
      history = h;
      search = record { legal = legal; among = among; over = over };
      found = subst (λ n. IsFoundIn n h found) e ok;
    }
found_by within budget b workers h (Err x) e legal among over ok = tt
