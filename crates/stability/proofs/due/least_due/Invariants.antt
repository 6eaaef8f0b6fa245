use Rattle.std.proofs.Common.{◌≡◌, drop}
use Rattle.oz_base.specs.Lists.{first_given}
use Rattle.oz_semantics.specs.Schedule.{due_in, least_due}
use Rattle.stability.proofs.due.least_due.Given as goal

-- nothing is due in the spaces passed so far
abbrev pub invariant-loop-place : goal.invariant-loop-place
invariant-loop-place l = first_given (due_in l.levels) (drop l.place l.levels) ≡ least_due l.levels
