use Rattle.std.proofs.Common.{length}
use Rattle.best_search.proofs.EntryLaws.{IsLeft}
use Rattle.best_search.proofs.ending.solution.Given as goal

abbrev pub invariant-entries : goal.invariant-entries
invariant-entries l = IsLeft l.entries l.cost l.rest

abbrev pub decreases-entries : goal.decreases-entries
decreases-entries l = length l.rest
