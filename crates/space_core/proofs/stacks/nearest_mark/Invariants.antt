use Rattle.std.proofs.Common.{◌≡◌, ◌≤◌, length, take, drop, reverse}
use Rattle.oz_semantics.specs.Exceptions.{unwound}
use Rattle.space_core.proofs.stacks.nearest_mark.Given as goal

-- what was passed over has no mark
abbrev pub invariant-marks : goal.invariant-marks
invariant-marks l = (l.place ≤ length l.frames) × (unwound l.exception (drop 1 l.stack) ≡ unwound l.exception (reverse (take l.place l.frames)))

abbrev pub decreases-marks : goal.decreases-marks
decreases-marks l = l.place
