use Rattle.space_core.proofs.ThroughLaws.{AreSoFar}
use Rattle.space_core.proofs.fates.fates_below.Given as goal

-- those of the spaces so far are right
abbrev pub invariant-loop-level : goal.invariant-loop-level
invariant-loop-level l = AreSoFar l.space l.levels l.fates.items l.level-index
