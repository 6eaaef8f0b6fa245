use Rattle.std.proofs.Common.{◌≡◌, take}
use Rattle.space_core.specs.Firing.{marked}
use Rattle.space_core.proofs.firing.marked.Given as goal

abbrev pub invariant-loop-place : goal.invariant-loop-place
invariant-loop-place l = l.begun ≡ marked l.marks (take l.place l.triggers)
