use Rattle.std.proofs.Common.{[]}
use Rattle.oz_semantics.specs.Configurations.{with_frames}
use Rattle.space_core.proofs.AnswerLaws.{quiet_sound, quiet_shows}
use Rattle.space_core.proofs.levels.Levels.clear.Goals as goal

pub invariant_of-self : goal.invariant_of-self
invariant_of-self c =
    quiet_sound c.self.inside.levels.items c.as_slice.result.now c.args.self.now c.as_slice.ensures.value c.self.view_is c.self.invariant c.args.id.now.space c.in-Some.place c.in-Some.ensures c.index_mut.result.now c.clear.new.level c.index_mut.ensures.value
    (with_frames c.args.id.now.number (λ stack. [])) c.clear.ensures

pub returns-in-Some : goal.returns-in-Some
returns-in-Some c =
    quiet_shows c.self.inside.levels.items c.as_slice.result.now c.args.self.now c.as_slice.ensures.value c.self.view_is c.self.invariant c.args.id.now.space c.in-Some.place c.in-Some.ensures c.index_mut.result.now c.clear.new.level c.index_mut.ensures.value
    (with_frames c.args.id.now.number (λ stack. [])) c.clear.ensures
