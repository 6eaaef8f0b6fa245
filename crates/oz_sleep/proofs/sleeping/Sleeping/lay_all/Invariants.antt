use Rattle.std.proofs.Common.{◌≡◌, Contains, take}
use Rattle.oz_semantics.specs.Names.{named}
use Rattle.oz_semantics.specs.declared.configuration.Thread.{Thread}
use Rattle.space_core.specs.Levels.{OfLayer}
use Rattle.oz_sleep.specs.Laid.{LaysMore, RestsOr}
use Rattle.oz_sleep.proofs.sleeping.Sleeping.lay_all.Given as goal

-- each thread that was passed can step, or sleeps
abbrev pub invariant-loop-thread : goal.invariant-loop-thread
invariant-loop-thread l = record {
  space : l.self.space ≡ l.initial.self.space;
  more : LaysMore l.levels l.initial.self l.self;
  rests : OfLayer l.levels l.place (λ k. (t : Thread) → Contains (take l.thread-index k.threads) t → RestsOr l.statements l.levels l.self (named l.initial.self.space t.number));
}
