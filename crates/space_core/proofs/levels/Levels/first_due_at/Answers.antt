use Rattle.space_core.proofs.TreeAnswers.{due_at}
use Rattle.space_core.proofs.levels.Levels.first_due_at.Goals as goal

pub returns : goal.returns
returns c =
    due_at c.self.inside.levels.items c.as_slice.result.now c.args.self.now c.as_slice.ensures.value c.self.view_is c.self.invariant c.args.place c.requires c.index.result.now c.index.ensures c.first_due_of.result
    c.first_due_of.ensures
