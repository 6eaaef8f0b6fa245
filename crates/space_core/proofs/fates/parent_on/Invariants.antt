use Rattle.std.proofs.Common.{length}
use Rattle.space_core.specs.Fates.{is_parent_at}
use Rattle.space_core.proofs.PathLaws.{IsLeft}
use Rattle.space_core.proofs.fates.parent_on.Given as goal

-- those that were taken off are not the parent's
abbrev pub invariant-loop-path : goal.invariant-loop-path
invariant-loop-path l = IsLeft (is_parent_at l.levels l.space) l.initial.path.items l.path.items

abbrev pub decreases-loop-path : goal.decreases-loop-path
decreases-loop-path l = length l.path.items
