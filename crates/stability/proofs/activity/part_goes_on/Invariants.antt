use Rattle.std.proofs.Common.{◌≡◌}
use Rattle.std.specs.List.{list_any}
use Rattle.oz_semantics.specs.Spaces.{layer_goes_on}
use Rattle.stability.specs.Known.{known}
use Rattle.stability.specs.Parts.{part}
use Rattle.stability.proofs.activity.part_goes_on.Given as goal

-- those passed so far do not go on
abbrev pub invariant-loop-place : goal.invariant-loop-place
invariant-loop-place l =
    list_any (layer_goes_on l.statements l.levels (known l.levels l.states)) (part l.levels l.place l.to)
    ≡ list_any (layer_goes_on l.statements l.levels (known l.levels l.states)) (part l.levels l.from l.to)
