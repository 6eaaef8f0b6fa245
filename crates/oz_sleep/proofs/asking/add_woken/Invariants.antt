use Rattle.std.proofs.Common.{◌≡◌, ◌++◌, ℕ, Contains, take, map, filter}
use Rattle.oz_semantics.specs.Names.{named}
use Rattle.sleep_laws.specs.Woken.{top_able}
use Rattle.oz_sleep.specs.Laid.{LaysMore, RestsOr}
use Rattle.oz_sleep.proofs.asking.add_woken.Given as goal

-- each thread that was passed was added, or sleeps
abbrev pub invariant-loop-number : goal.invariant-loop-number
invariant-loop-number l = record {
  able : l.able.items ≡ l.initial.able.items ++ filter (top_able l.statements l.levels) (map (named l.space) (take l.number-index l.woken));
  more : LaysMore l.levels l.initial.sleeping l.sleeping;
  rests : (n : ℕ) → Contains (take l.number-index l.woken) n → RestsOr l.statements l.levels l.sleeping (named l.space n);
}
