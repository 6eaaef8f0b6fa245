use Rattle.std.proofs.Common.{◌≡◌, ◌≤◌, length}
use Rattle.space_core.specs.Fates.{with_fates}
use Rattle.space_core.proofs.remaking.meet_all.Given as goal

-- those that are left come to what all came to
abbrev pub invariant-loop-fate : goal.invariant-loop-fate
invariant-loop-fate l = record {
  within : length l.fates.items ≤ length l.levels.items;
  same : with_fates l.fates.items l.levels.items ≡ with_fates l.initial.fates.items l.initial.levels.items;
}

abbrev pub decreases-loop-fate : goal.decreases-loop-fate
decreases-loop-fate l = length l.fates.items
