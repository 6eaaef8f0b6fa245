use Rattle.std.proofs.Common.{◌≡◌, ◌++◌, drop}
use Rattle.std.specs.List.{flat_map}
use Rattle.oz_semantics.specs.Settling.{runnable_in, runnable}
use Rattle.stability.proofs.whole.runnable.Given as goal

-- what was found and what is left to be found are the whole
abbrev pub invariant-loop-place : goal.invariant-loop-place
invariant-loop-place l = l.ids.items ++ flat_map (runnable_in l.statements l.levels) (drop l.place l.levels) ≡ runnable l.statements l.levels
