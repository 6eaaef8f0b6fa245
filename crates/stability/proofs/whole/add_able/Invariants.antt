use Rattle.std.proofs.Common.{◌≡◌, ◌++◌, take, filter, map}
use Rattle.oz_semantics.specs.Names.{named}
use Rattle.oz_semantics.specs.declared.configuration.Thread.{Thread}
use Rattle.space_core.specs.Levels.{OfLayer}
use Rattle.stability.specs.Known.{known}
use Rattle.stability.proofs.ReadyLaws.{thread_steps}
use Rattle.stability.proofs.whole.add_able.Given as goal

-- those of the threads passed so far
abbrev pub invariant-loop-thread : goal.invariant-loop-thread
invariant-loop-thread l =
    OfLayer l.levels l.place (λ m. l.ids.items ≡ l.initial.ids.items
    ++ map (λ (t : Thread). named m.space t.number) (filter (thread_steps l.statements l.levels (known l.levels l.states) m) (take l.thread-index l.threads)))
