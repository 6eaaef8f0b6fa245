use Rattle.space_core.proofs.ThroughLaws.{fated_at, back_at}
use Rattle.space_core.proofs.remaking.fates_or_back.Goals as goal

pub returns-in-Ok-clause-fates : goal.returns-in-Ok-clause-fates
returns-in-Ok-clause-fates c =
    fated_at c.args.levels.now.items c.args.place c.requires c.index.result.now c.index.ensures c.as_slice.result.now c.as_slice.ensures.value c.in-Ok.fates.items c.in-Ok.ensures

pub returns-in-Err-clause-err : goal.returns-in-Err-clause-err
returns-in-Err-clause-err c =
    back_at c.args.levels.now.items c.args.place c.requires c.index_mut.result.now c.index_mut.ensures.value c.args.before c.see.new.self c.see.ensures
