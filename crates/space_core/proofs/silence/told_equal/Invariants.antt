use Rattle.std.proofs.Common.{◌≡◌, true, take}
use Rattle.std.specs.List.{list_all}
use Rattle.space_core.specs.Shown.{shown_all}
use Rattle.space_core.specs.Silence.{tell_equal}
use Rattle.space_core.proofs.silence.told_equal.Given as goal

abbrev pub invariant-loop-place : goal.invariant-loop-place
invariant-loop-place l = list_all (tell_equal (shown_all l.levels) l.space l.one l.other l.left) (take l.place l.one) ≡ true
