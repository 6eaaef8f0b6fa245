use Rattle.space_core.proofs.AnswerLaws.{caught_sound, caught_shows}
use Rattle.space_core.proofs.levels.Levels.unwind_from.Goals as goal

pub invariant_of-self : goal.invariant_of-self
invariant_of-self c =
    caught_sound c.self.inside.levels.items c.as_slice.result.now c.args.self.now c.as_slice.ensures.value c.self.view_is c.self.invariant c.args.id.now c.in-Some.place c.in-Some.ensures
    c.index_mut.result.now c.unwind_from.new.level c.index_mut.ensures.value c.args.exception.now c.unwind_from.result c.unwind_from.ensures.unwound c.unwind_from.ensures.err

pub returns-clause-caught : goal.returns-clause-caught
returns-clause-caught c =
    caught_shows c.self.inside.levels.items c.as_slice.result.now c.args.self.now c.as_slice.ensures.value c.self.view_is c.self.invariant c.args.id.now c.in-Some.place c.in-Some.ensures
    c.index_mut.result.now c.unwind_from.new.level c.index_mut.ensures.value c.args.exception.now c.unwind_from.result c.unwind_from.ensures.unwound
