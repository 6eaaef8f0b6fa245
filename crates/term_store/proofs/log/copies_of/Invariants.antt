use Rattle.std.proofs.Common.{◌≡◌, take}
use Rattle.term_store.proofs.log.copies_of.Given as goal

abbrev pub invariant-loop-tell : goal.invariant-loop-tell
invariant-loop-tell l = l.copy.items ≡ take l.tell-index l.tells
