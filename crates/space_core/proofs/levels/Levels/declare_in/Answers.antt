use Rattle.space_core.specs.Giving.{declaring_in}
use Rattle.space_core.proofs.DeclareLaws.{declare_in_is}
use Rattle.space_core.proofs.AnswerLaws.{result_sound, result_becomes}
use Rattle.space_core.proofs.levels.Levels.declare_in.Goals as goal

pub invariant_of-self : goal.invariant_of-self
invariant_of-self c =
    result_sound c.self.inside.levels.items c.as_slice.result.now c.args.self.now c.as_slice.ensures.value c.self.view_is c.self.invariant c.args.id.now.space c.in-Some.place c.in-Some.ensures c.index_mut.result.now c.declare_in.new.level c.index_mut.ensures.value
    (declaring_in c.args.id.now.number c.args.names.now c.args.body.now) c.declare_in.result c.declare_in.ensures.ok c.declare_in.ensures.err

pub returns-clause-ok : goal.returns-clause-ok
returns-clause-ok c = λ frame top.
    result_becomes c.self.inside.levels.items c.as_slice.result.now c.args.self.now c.as_slice.ensures.value c.self.view_is c.self.invariant c.args.id.now.space c.in-Some.place c.in-Some.ensures c.index_mut.result.now c.declare_in.new.level c.index_mut.ensures.value
    (declaring_in c.args.id.now.number c.args.names.now c.args.body.now) _ (declare_in_is c.args.id.now c.args.self.now c.args.names.now c.args.body.now frame top) c.declare_in.result c.declare_in.ensures.ok
