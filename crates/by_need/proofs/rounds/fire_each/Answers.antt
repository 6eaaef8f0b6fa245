use Rattle.std.proofs.Common.{◌∙◌, ap, arith, length, take, List, Bool}
use Rattle.space_core.specs.Firing.{firing, at_place}
use Rattle.by_need.proofs.RoundLaws.{fire_more, length_each}
use Rattle.by_need.proofs.rounds.fire_each.Goals as goal

pub fire_at-requires : goal.fire_at-requires
fire_at-requires c = omega (arith, c.requires, ap length c.loop-place.invariant, length_each (take c.loop-place.place c.args.marks.now) c.args.levels.now)

pub loop-place-preserved : goal.loop-place-preserved
loop-place-preserved c =
    c.in_ok-fire_at.ensures.ok ∙ ap (λ (m : List Bool). at_place c.loop-place.place (firing m) c.loop-place.levels) c.as_slice.ensures
    ∙ ap (at_place c.loop-place.place (firing c.index-marks-place.result)) c.loop-place.invariant
    ∙ fire_more c.args.marks.now _ c.loop-place.place c.index-marks-place.result (omega arith) c.index-marks-place.is
