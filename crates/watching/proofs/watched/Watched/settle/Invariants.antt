use Rattle.std.proofs.Common.{length}
use Rattle.watching.specs.Watching.{Tracks}
use Rattle.watching.proofs.watched.Watched.settle.Given as goal

abbrev pub invariant-candidates : goal.invariant-candidates
invariant-candidates l = Tracks l.store l.propagators l.initial.self → Tracks l.store l.propagators l.self

abbrev pub decreases-candidates : goal.decreases-candidates
decreases-candidates l = length l.self.due
