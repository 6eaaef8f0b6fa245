use Rattle.space_core.specs.Firing.{delaying}
use Rattle.space_core.proofs.LayerLaws.{delay_is}
use Rattle.space_core.proofs.AnswerLaws.{result_sound, result_becomes}
use Rattle.space_core.proofs.levels.Levels.delay.Goals as goal

pub invariant_of-self : goal.invariant_of-self
invariant_of-self c =
    result_sound c.self.inside.levels.items c.as_slice.result.now c.args.self.now c.as_slice.ensures.value c.self.view_is c.self.invariant c.args.id.now.space c.in-Some.place c.in-Some.ensures c.index_mut.result.now c.delay.new.level c.index_mut.ensures.value
    (delaying c.args.id.now.number c.args.procedure c.args.variable) c.delay.result c.delay.ensures.ok c.delay.ensures.err

pub returns-clause-ok : goal.returns-clause-ok
returns-clause-ok c =
    result_becomes c.self.inside.levels.items c.as_slice.result.now c.args.self.now c.as_slice.ensures.value c.self.view_is c.self.invariant c.args.id.now.space c.in-Some.place c.in-Some.ensures c.index_mut.result.now c.delay.new.level c.index_mut.ensures.value
    (delaying c.args.id.now.number c.args.procedure c.args.variable) _ (delay_is c.args.id.now c.args.self.now c.args.procedure c.args.variable) c.delay.result c.delay.ensures.ok
