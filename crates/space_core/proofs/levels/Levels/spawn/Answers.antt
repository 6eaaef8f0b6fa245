use Rattle.oz_semantics.specs.Configurations.{spawning}
use Rattle.space_core.proofs.AnswerLaws.{result_sound, result_shows}
use Rattle.space_core.proofs.levels.Levels.spawn.Goals as goal

pub invariant_of-self : goal.invariant_of-self
invariant_of-self c =
    result_sound c.self.inside.levels.items c.as_slice.result.now c.args.self.now c.as_slice.ensures.value c.self.view_is c.self.invariant c.args.space.now c.in-Some.place c.in-Some.ensures c.index_mut.result.now c.spawn.new.level c.index_mut.ensures.value
    (spawning c.args.frames.items) c.spawn.result c.spawn.ensures.ok c.spawn.ensures.err

pub returns-clause-ok : goal.returns-clause-ok
returns-clause-ok c =
    result_shows c.self.inside.levels.items c.as_slice.result.now c.args.self.now c.as_slice.ensures.value c.self.view_is c.self.invariant c.args.space.now c.in-Some.place c.in-Some.ensures c.index_mut.result.now c.spawn.new.level c.index_mut.ensures.value
    (spawning c.args.frames.items) c.spawn.result c.spawn.ensures.ok
