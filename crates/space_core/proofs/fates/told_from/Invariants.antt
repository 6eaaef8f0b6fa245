use Rattle.std.proofs.Common.{◌≡◌, ◌++◌, drop}
use Rattle.space_core.proofs.fates.told_from.Given as goal

-- what was taken so far, and the rest
abbrev pub invariant-loop-place : goal.invariant-loop-place
invariant-loop-place l = l.tells.items ++ drop l.place l.store ≡ drop l.from l.store
