use Rattle.std.proofs.Common.{true, take}
use Rattle.term_store.specs.Telling.{IsTold}
use Rattle.term_store.proofs.store.Store.tell_each.Given as goal

abbrev pub invariant-loop-tell : goal.invariant-loop-tell
invariant-loop-tell l = IsTold l.fn.self (take l.tell-index l.tells) l.copy l.initial.touched.items l.touched.items true
