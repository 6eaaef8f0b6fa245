use Rattle.std.proofs.Common.{◌≡◌, take, map, false}
use Rattle.oz_semantics.specs.declared.configuration.Trigger.{Trigger}
use Rattle.by_need.proofs.triggers.unneeded.Given as goal

abbrev pub invariant-marks : goal.invariant-marks
invariant-marks l = l.marks ≡ map (λ (t : Trigger). false) (take l._trigger-index l.triggers)
