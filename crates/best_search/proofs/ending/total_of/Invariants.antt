use Rattle.std.proofs.Common.{◌≡◌, ◌+◌, length}
use Rattle.oz_search.specs.Histories.{total_of}
use Rattle.best_search.proofs.ending.total_of.Given as goal

abbrev pub invariant-entries : goal.invariant-entries
invariant-entries l = l.total + total_of l.rest ≡ total_of l.entries

abbrev pub decreases-entries : goal.decreases-entries
decreases-entries l = length l.rest
