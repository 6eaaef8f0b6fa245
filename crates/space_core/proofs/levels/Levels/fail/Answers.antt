use Rattle.oz_semantics.specs.Configurations.{failed}
use Rattle.space_core.proofs.TreeAnswers.{gone_sound, gone_shows, fail_sound, fail_shows}
use Rattle.space_core.proofs.levels.Levels.fail.Goals as goal

pub invariant_of-self : goal.invariant_of-self
invariant_of-self c = gone_sound c.self.inside.levels.items c.drop_below.new.levels.items c.as_slice.result.now c.args.self.now c.args.space.now c.drop_below.ensures c.as_slice.ensures.value c.self.view_is c.self.invariant

pub returns-in_default : goal.returns-in_default
returns-in_default c = gone_shows c.self.inside.levels.items c.drop_below.new.levels.items c.as_slice.result.now c.args.self.now c.args.space.now c.drop_below.ensures c.as_slice.ensures.value c.self.view_is c.self.invariant failed c.in_default.ensures

pub invariant_of-self-2 : goal.invariant_of-self-2
invariant_of-self-2 c =
    fail_sound c.self.inside.levels.items c.drop_below.new.levels.items c.as_slice.result.now c.args.self.now c.args.space.now c.drop_below.ensures c.as_slice.ensures.value c.self.view_is c.self.invariant c.in-Some.place c.in-Some.ensures c.index_mut.result.now c.fail.new.level
    c.index_mut.ensures.value c.fail.ensures

pub returns : goal.returns
returns c =
    fail_shows c.self.inside.levels.items c.drop_below.new.levels.items c.as_slice.result.now c.args.self.now c.args.space.now c.drop_below.ensures c.as_slice.ensures.value c.self.view_is c.self.invariant c.in-Some.place c.in-Some.ensures c.index_mut.result.now c.fail.new.level
    c.index_mut.ensures.value c.fail.ensures
