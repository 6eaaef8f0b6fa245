use Rattle.std.proofs.Common.{drop}
use Rattle.watching.specs.Watching.{Tracks, HasDue}
use Rattle.watching.proofs.watched.Watched.first_due.Given as goal

-- those that are due are among the rest
abbrev pub invariant-loop-index : goal.invariant-loop-index
invariant-loop-index l = Tracks l.store l.propagators l.self → HasDue l.store l.propagators (drop l.index-index l.self.due)
