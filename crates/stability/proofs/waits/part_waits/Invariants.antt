use Rattle.std.proofs.Common.{◌≡◌}
use Rattle.std.specs.List.{list_any}
use Rattle.oz_semantics.specs.Configurations.{ancestor_variables}
use Rattle.oz_semantics.specs.Spaces.{layer_waits}
use Rattle.stability.specs.Known.{known}
use Rattle.stability.specs.Parts.{part}
use Rattle.stability.proofs.waits.part_waits.Given as goal

-- those passed so far do not wait
abbrev pub invariant-loop-place : goal.invariant-loop-place
invariant-loop-place l =
    list_any (layer_waits l.statements l.levels (known l.levels l.states) (ancestor_variables l.levels l.space)) (part l.levels l.place l.to)
    ≡ list_any (layer_waits l.statements l.levels (known l.levels l.states) (ancestor_variables l.levels l.space)) (part l.levels l.from l.to)
