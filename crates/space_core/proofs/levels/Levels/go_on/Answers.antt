use Rattle.oz_semantics.specs.Configurations.{with_frames}
use Rattle.space_core.specs.Levels.{replacing}
use Rattle.space_core.proofs.LayerLaws.{go_on_is}
use Rattle.space_core.proofs.AnswerLaws.{result_sound, result_becomes}
use Rattle.space_core.proofs.levels.Levels.go_on.Goals as goal

pub invariant_of-self : goal.invariant_of-self
invariant_of-self c =
    result_sound c.self.inside.levels.items c.as_slice.result.now c.args.self.now c.as_slice.ensures.value c.self.view_is c.self.invariant c.args.id.now.space c.in-Some.place c.in-Some.ensures c.index_mut.result.now c.replace_top.new.level c.index_mut.ensures.value
    (with_frames c.args.id.now.number (replacing c.args.frames.items)) c.replace_top.result c.replace_top.ensures.ok c.replace_top.ensures.err

pub returns-clause-ok : goal.returns-clause-ok
returns-clause-ok c =
    result_becomes c.self.inside.levels.items c.as_slice.result.now c.args.self.now c.as_slice.ensures.value c.self.view_is c.self.invariant c.args.id.now.space c.in-Some.place c.in-Some.ensures c.index_mut.result.now c.replace_top.new.level c.index_mut.ensures.value
    (with_frames c.args.id.now.number (replacing c.args.frames.items)) _ (go_on_is c.args.id.now c.args.self.now c.args.frames.items) c.replace_top.result c.replace_top.ensures.ok
