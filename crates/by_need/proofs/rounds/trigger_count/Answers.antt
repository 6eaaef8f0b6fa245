use Rattle.std.proofs.Common.{ap, arith, length, List}
use Rattle.oz_semantics.specs.declared.configuration.Layer.{Layer}
use Rattle.oz_semantics.specs.declared.configuration.Trigger.{Trigger}
use Rattle.by_need.proofs.RoundLaws.{counted_more}
use Rattle.by_need.proofs.rounds.trigger_count.Goals as goal

pub loop-place-preserved : goal.loop-place-preserved
loop-place-preserved c =
    counted_more (λ (k : Layer). length k.triggers) c.args.levels.now c.loop-place.place (omega arith) c.loop-place.count c.in_ok-count.count (length c.triggers_at-more.result.now) c.loop-place.invariant
    (rw c.in_ok-count.ensures.ok_part at c.checked_add.ensures).1 (λ l e. ap (λ (ts : List Trigger). length ts) (c.triggers_at-more.ensures l e))
