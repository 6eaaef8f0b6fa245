use Rattle.std.proofs.Common.{◌≡◌, drop}
use Rattle.std.specs.List.{list_any}
use Rattle.space_core.specs.Levels.{OfLayer}
use Rattle.stability.specs.Known.{known}
use Rattle.stability.proofs.ReadyLaws.{thread_waits}
use Rattle.stability.proofs.waits.any_waits.Given as goal

-- those passed so far do not
abbrev pub invariant-loop-thread : goal.invariant-loop-thread
invariant-loop-thread l =
    OfLayer l.levels l.place (λ m. list_any (thread_waits l.statements l.levels (known l.levels l.states) l.space m) (drop l.thread-index l.threads)
    ≡ list_any (thread_waits l.statements l.levels (known l.levels l.states) l.space m) l.threads)
