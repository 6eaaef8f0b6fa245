use Rattle.oz_semantics.specs.Configurations.{giving_out}
use Rattle.space_core.proofs.AnswerLaws.{result_sound, result_shows}
use Rattle.space_core.proofs.levels.Levels.give_out.Goals as goal

pub invariant_of-self : goal.invariant_of-self
invariant_of-self c =
    result_sound c.self.inside.levels.items c.as_slice.result.now c.args.self.now c.as_slice.ensures.value c.self.view_is c.self.invariant c.args.space.now c.in-Some.place c.in-Some.ensures c.index_mut.result.now c.give_out.new.level c.index_mut.ensures.value
    (giving_out c.args.count) c.give_out.result c.give_out.ensures.ok c.give_out.ensures.err

pub returns-clause-ok : goal.returns-clause-ok
returns-clause-ok c =
    result_shows c.self.inside.levels.items c.as_slice.result.now c.args.self.now c.as_slice.ensures.value c.self.view_is c.self.invariant c.args.space.now c.in-Some.place c.in-Some.ensures c.index_mut.result.now c.give_out.new.level c.index_mut.ensures.value
    (giving_out c.args.count) c.give_out.result c.give_out.ensures.ok
