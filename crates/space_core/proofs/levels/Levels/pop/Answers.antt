use Rattle.std.proofs.Common.{drop}
use Rattle.oz_semantics.specs.Configurations.{with_frames}
use Rattle.space_core.proofs.AnswerLaws.{quiet_sound, quiet_shows}
use Rattle.space_core.proofs.levels.Levels.pop.Goals as goal

pub invariant_of-self : goal.invariant_of-self
invariant_of-self c =
    quiet_sound c.self.inside.levels.items c.as_slice.result.now c.args.self.now c.as_slice.ensures.value c.self.view_is c.self.invariant c.args.id.now.space c.in_ok-place.place c.in_ok-place.ensures c.index_mut.result.now c.pop.new.level c.index_mut.ensures.value
    (with_frames c.args.id.now.number (λ stack. drop 1 stack)) c.pop.ensures.popped

pub returns-clause-popped : goal.returns-clause-popped
returns-clause-popped c =
    quiet_shows c.self.inside.levels.items c.as_slice.result.now c.args.self.now c.as_slice.ensures.value c.self.view_is c.self.invariant c.args.id.now.space c.in_ok-place.place c.in_ok-place.ensures c.index_mut.result.now c.pop.new.level c.index_mut.ensures.value
    (with_frames c.args.id.now.number (λ stack. drop 1 stack)) c.pop.ensures.popped
