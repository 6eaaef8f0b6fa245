use Rattle.std.proofs.Common.{◌≡◌, false, take}
use Rattle.std.specs.List.{list_any}
use Rattle.space_core.specs.Shown.{shown_all}
use Rattle.space_core.specs.Silence.{tell_holds}
use Rattle.space_core.proofs.silence.named_holds.Given as goal

abbrev pub invariant-loop-place : goal.invariant-loop-place
invariant-loop-place l = list_any (tell_holds (shown_all l.levels) l.space l.store l.variable) (take l.place l.store) ≡ false
