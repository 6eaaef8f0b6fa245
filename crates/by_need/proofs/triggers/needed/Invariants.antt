use Rattle.std.proofs.Common.{◌≡◌, take, map}
use Rattle.oz_semantics.specs.Triggers.{is_needed}
use Rattle.by_need.proofs.triggers.needed.Given as goal

abbrev pub invariant-loop-trigger : goal.invariant-loop-trigger
invariant-loop-trigger l = l.marks ≡ map (is_needed l.store l.waited) (take l.trigger-index l.triggers)
