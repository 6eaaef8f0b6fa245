use Rattle.space_core.proofs.TreeAnswers.{silent_at}
use Rattle.space_core.proofs.levels.Levels.is_silent.Goals as goal

pub returns : goal.returns
returns c =
    silent_at c.self.inside.levels.items c.as_slice.result.now c.args.self.now c.as_slice.ensures.value c.self.view_is c.self.invariant c.args.place c.requires c.index.result.now c.index.ensures c.is_silent.result
    c.is_silent.ensures
