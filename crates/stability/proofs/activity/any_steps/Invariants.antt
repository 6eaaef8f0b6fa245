use Rattle.std.proofs.Common.{◌≡◌, drop}
use Rattle.std.specs.List.{list_any}
use Rattle.space_core.specs.Levels.{OfLayer}
use Rattle.stability.specs.Known.{known}
use Rattle.stability.proofs.ReadyLaws.{thread_steps}
use Rattle.stability.proofs.activity.any_steps.Given as goal

-- those passed so far cannot
abbrev pub invariant-loop-thread : goal.invariant-loop-thread
invariant-loop-thread l =
    OfLayer l.levels l.place (λ m. list_any (thread_steps l.statements l.levels (known l.levels l.states) m) (drop l.thread-index l.threads)
    ≡ list_any (thread_steps l.statements l.levels (known l.levels l.states) m) l.threads)
