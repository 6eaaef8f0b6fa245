use Rattle.std.proofs.Common.{◌≡◌, take, length}
use Rattle.std.specs.List.{sum_by}
use Rattle.oz_semantics.specs.declared.configuration.Layer.{Layer}
use Rattle.by_need.proofs.rounds.trigger_count.Given as goal

abbrev pub invariant-loop-place : goal.invariant-loop-place
invariant-loop-place l = l.count ≡ sum_by (λ (k : Layer). length k.triggers) (take l.place l.levels)
