use Rattle.space_core.proofs.RenamedLaws.{PlacedUpTo}
use Rattle.space_core.proofs.renaming.add_all_renamed.Given as goal

-- those so far were put there
abbrev pub invariant-loop-level : goal.invariant-loop-level
invariant-loop-level l = PlacedUpTo l.by l.source l.level-index l.initial.levels.items l.levels.items
