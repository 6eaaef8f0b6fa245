use Rattle.std.proofs.Common.{take}
use Rattle.std.specs.List.{fold}
use Rattle.oz_semantics.specs.Triggers.{beginning}
use Rattle.space_core.specs.Shown.{IsQuiet}
use Rattle.space_core.proofs.firing.begin_all.Given as goal

-- a thread began for each of those passed so far
abbrev pub invariant-loop-trigger : goal.invariant-loop-trigger
invariant-loop-trigger l = IsQuiet (λ k. fold beginning k (take l.trigger-index l.triggers)) l.initial.level l.level
