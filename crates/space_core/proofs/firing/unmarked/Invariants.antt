use Rattle.std.proofs.Common.{◌≡◌, take}
use Rattle.space_core.specs.Firing.{unmarked}
use Rattle.space_core.proofs.firing.unmarked.Given as goal

abbrev pub invariant-loop-place : goal.invariant-loop-place
invariant-loop-place l = l.left ≡ unmarked l.marks (take l.place l.triggers)
