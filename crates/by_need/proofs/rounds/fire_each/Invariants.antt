use Rattle.std.proofs.Common.{◌≡◌, take}
use Rattle.by_need.specs.Rounds.{fire_each}
use Rattle.by_need.proofs.rounds.fire_each.Given as goal

abbrev pub invariant-loop-place : goal.invariant-loop-place
invariant-loop-place l = l.levels ≡ fire_each (take l.place l.marks) l.initial.levels
