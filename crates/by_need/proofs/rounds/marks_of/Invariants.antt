use Rattle.std.proofs.Common.{◌≡◌, take, map}
use Rattle.by_need.proofs.RoundLaws.{marks_in}
use Rattle.by_need.proofs.rounds.marks_of.Given as goal

abbrev pub invariant-loop-place : goal.invariant-loop-place
invariant-loop-place l = l.marks ≡ map (marks_in l.statements l.levels) (take l.place l.levels)
