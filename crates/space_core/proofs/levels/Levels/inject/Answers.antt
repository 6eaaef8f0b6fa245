use Rattle.space_core.proofs.SpaceEditLaws.{inject_done}
use Rattle.space_core.proofs.levels.Levels.inject.Goals as goal

pub returns-clause-ok : goal.returns-clause-ok
returns-clause-ok c =
    inject_done c.args.id.now c.args.self.now c.requires.parent_there c.args.child.now c.args.procedure c.requires c.in_ok-frames.frames.items c.in_ok-frames.ensures
    c.in-Some.place c.in-Some.ensures c.store_at.result.now c.store_at.ensures c.consistent.ensures c.spawn.new.self c.pop-statement.new.self c.in_ok-spawn.ensures.ok c.pop-statement.ensures.popped c.consistent-2.ensures
