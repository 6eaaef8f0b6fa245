use Rattle.std.proofs.Common.{take}
use Rattle.std.specs.List.{flat_map}
use Rattle.oz_semantics.specs.Configurations.{view}
use Rattle.space_core.specs.Levels.{OfLayer}
use Rattle.stability.specs.Known.{known}
use Rattle.tree_equal.specs.Answers.{SameClasses}
use Rattle.by_need.proofs.WaitLaws.{thread_waits}
use Rattle.by_need.proofs.triggers.waited_in.Given as goal

-- what those passed so far wait for
abbrev pub invariant-loop-thread : goal.invariant-loop-thread
invariant-loop-thread l =
    OfLayer l.levels l.place (λ m. SameClasses (view l.levels m.space) l.waited (flat_map (thread_waits l.statements l.levels (known l.levels l.states) m) (take l.thread-index l.threads)))
