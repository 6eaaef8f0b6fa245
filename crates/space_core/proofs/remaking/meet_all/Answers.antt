use Rattle.std.proofs.Common.{◌∙◌}
use Rattle.space_core.proofs.FatedLaws.{fates_step}
use Rattle.space_core.proofs.remaking.meet_all.Goals as goal

pub loop-fate-preserved : goal.loop-fate-preserved
loop-fate-preserved c =
    let step = fates_step c.loop-fate.fates.items c.pop.new.self.items c.in-Some.fate c.loop-fate.levels.items c.meet.new.levels.items c.len-place.result c.in-Some.ensures.items (c.len-place.ensures ∙ c.pop.new.self.ok.0) c.meet.ensures c.loop-fate.invariant.within in
    record { within = step.0; same = step.1 ∙ c.loop-fate.invariant.same }
