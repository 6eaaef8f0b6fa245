use Rattle.std.proofs.Common.{◌≡◌}
use Rattle.std.specs.List.{list_any}
use Rattle.oz_semantics.specs.Configurations.{view}
use Rattle.oz_semantics.specs.Spaces.{has_due}
use Rattle.oz_semantics.specs.declared.configuration.Layer.{Layer}
use Rattle.stability.specs.Parts.{part}
use Rattle.stability.proofs.due.has_due_between.Given as goal

-- those passed so far have none
abbrev pub invariant-loop-place : goal.invariant-loop-place
invariant-loop-place l =
    list_any (λ (m : Layer). has_due (view l.levels m.space) m) (part l.levels l.place l.to) ≡ list_any (λ (m : Layer). has_due (view l.levels m.space) m) (part l.levels l.from l.to)
