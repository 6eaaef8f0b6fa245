use Rattle.space_core.proofs.AdvanceLaws.{told_nothing}
use Rattle.space_core.proofs.advances.tell_alone.Goals as goal

pub returns-clause-told : goal.returns-clause-told
returns-clause-told c =
    told_nothing c.args.levels.now.items c.args.place c.requires c.args.tells.now c.index.result.now c.index.ensures c.as_slice.result.now c.as_slice.ensures.value
    c.all_home-home.result c.all_home-home.ensures c.tell_through.new.levels.items c.tell_through.result c.tell_through.ensures.told
