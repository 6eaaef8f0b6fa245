use Rattle.std.proofs.Common.{◌≡◌, ◌⊎◌, ◌++◌, true, Contains, length, filter}
use Rattle.oz_base.specs.declared.names.Ident.{Ident}
use Rattle.sleep_laws.specs.Woken.{is_asked_still}
use Rattle.oz_sleep.specs.Laid.{LaysMore, RestsIn}
use Rattle.oz_sleep.proofs.asking.staying.Given as goal

-- each thread of the queue that was passed stays, or sleeps
abbrev pub invariant-queued : goal.invariant-queued
invariant-queued l = record {
  able : filter (is_asked_still l.statements l.levels l.space) l.queue ≡ l.able.items ++ filter (is_asked_still l.statements l.levels l.space) l.rest;
  more : LaysMore l.levels l.initial.sleeping l.sleeping;
  rests : (id : Ident) → Contains l.queue id → Contains l.rest id ⊎ (is_asked_still l.statements l.levels l.space id ≡ true) ⊎ RestsIn l.statements l.levels l.sleeping id;
}

abbrev pub decreases-queued : goal.decreases-queued
decreases-queued l = length l.rest
