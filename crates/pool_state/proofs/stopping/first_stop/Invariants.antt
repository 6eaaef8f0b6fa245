use Rattle.std.proofs.Common.{◌≡◌, length}
use Rattle.oz_search.specs.Histories.{stop_of}
use Rattle.pool_state.proofs.stopping.first_stop.Given as goal

abbrev pub invariant-entries : goal.invariant-entries
invariant-entries g l = stop_of l.rest ≡ stop_of l.entries

abbrev pub decreases-entries : goal.decreases-entries
decreases-entries g l = length l.rest
