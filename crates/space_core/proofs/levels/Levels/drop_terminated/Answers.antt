use Rattle.oz_semantics.specs.Configurations.{without_terminated}
use Rattle.space_core.proofs.AnswerLaws.{quiet_sound, quiet_shows}
use Rattle.space_core.proofs.levels.Levels.drop_terminated.Goals as goal

pub invariant_of-self : goal.invariant_of-self
invariant_of-self c =
    quiet_sound c.self.inside.levels.items c.as_slice.result.now c.args.self.now c.as_slice.ensures.value c.self.view_is c.self.invariant c.args.space.now c.in-Some.place c.in-Some.ensures c.index_mut.result.now c.drop_terminated.new.level c.index_mut.ensures.value
    without_terminated c.drop_terminated.ensures

pub returns-in-Some : goal.returns-in-Some
returns-in-Some c =
    quiet_shows c.self.inside.levels.items c.as_slice.result.now c.args.self.now c.as_slice.ensures.value c.self.view_is c.self.invariant c.args.space.now c.in-Some.place c.in-Some.ensures c.index_mut.result.now c.drop_terminated.new.level c.index_mut.ensures.value
    without_terminated c.drop_terminated.ensures
