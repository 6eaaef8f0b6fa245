use Rattle.std.proofs.Common.{pos}
use Rattle.oz_language.specs.declared.kernel.Constant.TheVariants.{Int}
use Rattle.oz_scope.proofs.FieldLaws.{repeats_step}
use Rattle.oz_scope.proofs.features.meet_repeats.Goals as goal

pub places-preserved : goal.places-preserved
places-preserved c =
    let step = repeats_step c.args.places.now c.places.constant-index (Int (pos 0), 0) c.places.seen.keys c.places.found c.places-test.true in
    cc (step, c.in_ok-meet_feature.ensures.found, c.in_ok-meet_feature.ensures.seen, c.places.invariant)
