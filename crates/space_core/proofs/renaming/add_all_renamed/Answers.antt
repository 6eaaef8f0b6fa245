use Rattle.space_core.proofs.RenamedLaws.{placed_more}
use Rattle.space_core.proofs.renaming.add_all_renamed.Goals as goal

pub loop-level-preserved : goal.loop-level-preserved
loop-level-preserved c =
    placed_more c.args.by.now c.args.source.now c.args.levels.now.items c.loop-level.levels.items c.add_renamed.new.levels.items c.loop-level.level-index c.level-item.result
    c.loop-level-test.true c.level-item.is c.loop-level.invariant c.in_ok-add_renamed.ensures
