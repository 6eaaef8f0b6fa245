use Rattle.space_core.specs.Giving.{assigning}
use Rattle.space_core.proofs.LayerLaws.{assign_is}
use Rattle.space_core.proofs.AnswerLaws.{result_sound, result_becomes}
use Rattle.space_core.proofs.levels.Levels.assign.Goals as goal

pub invariant_of-self : goal.invariant_of-self
invariant_of-self c =
    result_sound c.self.inside.levels.items c.as_slice.result.now c.args.self.now c.as_slice.ensures.value c.self.view_is c.self.invariant c.args.id.now.space c.in-Some.place c.in-Some.ensures c.index_mut.result.now c.assign.new.level c.index_mut.ensures.value
    (assigning c.args.id.now.number c.args.cell c.args.content) c.assign.result c.assign.ensures.ok c.assign.ensures.err

pub returns-clause-ok : goal.returns-clause-ok
returns-clause-ok c =
    result_becomes c.self.inside.levels.items c.as_slice.result.now c.args.self.now c.as_slice.ensures.value c.self.view_is c.self.invariant c.args.id.now.space c.in-Some.place c.in-Some.ensures c.index_mut.result.now c.assign.new.level c.index_mut.ensures.value
    (assigning c.args.id.now.number c.args.cell c.args.content) _ (assign_is c.args.id.now c.args.self.now c.args.cell c.args.content) c.assign.result c.assign.ensures.ok
