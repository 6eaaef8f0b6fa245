use Rattle.propagation.proofs.RunLaws.{Told}
use Rattle.propagation.proofs.runs.news_of.Given as goal

abbrev pub invariant-loop-tell : goal.invariant-loop-tell
invariant-loop-tell l = Told l.store l.copy l.tells l.told.items l.tell-index
