use Rattle.std.proofs.Common.{◌≡◌, true, take}
use Rattle.std.specs.List.{list_all}
use Rattle.space_core.specs.Shown.{shown_all}
use Rattle.space_core.specs.Silence.{tell_alike}
use Rattle.space_core.proofs.silence.named_alike.Given as goal

abbrev pub invariant-loop-place : goal.invariant-loop-place
invariant-loop-place l = list_all (tell_alike (shown_all l.levels) l.space l.one l.other) (take l.place l.one) ≡ true
