use Rattle.std.proofs.Common.{◌≡◌, take}
use Rattle.oz_semantics.specs.Configurations.{frames_of}
use Rattle.space_core.proofs.stacks.frames_of.Given as goal

abbrev pub invariant-loop-number : goal.invariant-loop-number
invariant-loop-number l = l.frames.items ≡ frames_of l.environment (take l.number-index l.body)
