use Rattle.space_core.proofs.TreeAnswers.{held_at}
use Rattle.space_core.proofs.levels.Levels.is_held.Goals as goal

pub returns : goal.returns
returns c =
    held_at c.self.inside.levels.items c.as_slice.result.now c.args.self.now c.as_slice.ensures.value c.self.view_is c.self.invariant c.args.seen_at c.requires c.index.result.now c.index.ensures
    c.args.space.now c.args.variable.now c.is_held.result c.is_held.ensures
