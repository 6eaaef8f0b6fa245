use Rattle.std.proofs.Common.{List, subst}
use Rattle.space_core.specs.Fates.{IsChosen}
use Rattle.space_core.specs.declared.fates.Fate.{Fate}
use Rattle.space_core.proofs.ThroughLaws.{one_more}
use Rattle.space_core.proofs.fates.fates_below.Goals as goal

pub loop-level-preserved : goal.loop-level-preserved
loop-level-preserved c =
    one_more c.args.space.now c.args.levels.now c.loop-level.fates.items c.push-in-loop-level.new.self.items c.loop-level.level-index c.level-item.result c.in_ok-fate.fate c.loop-level-test.true c.level-item.is
    c.loop-level.invariant (subst (λ (fs : List Fate). IsChosen c.args.space.now c.args.levels.now fs c.level-item.result c.in_ok-fate.fate) c.as_slice.ensures.value c.in_ok-fate.ensures.chosen) c.in_ok-push-2.ensures.items
