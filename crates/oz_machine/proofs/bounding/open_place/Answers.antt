use Rattle.std.proofs.Common.{◌≡◌, ◌∙◌, Some, sym}
use Rattle.std.specs.Prelude.{position}
use Rattle.oz_semantics.specs.Configurations.{is_of, layer_of}
use Rattle.oz_acts.proofs.PlaceLaws.{place_own, place_within}
use Rattle.oz_machine.proofs.bounding.open_place.Goals as goal

pub returns-in-Open : goal.returns-in-Open
returns-in-Open c =
    let levels = c.args.levels.now in
    let space = c.args.space.now in
    let place = c.in_ok-place.place in
    let stands : Some place ≡ position (is_of space) levels = sym c.in_ok-place.was ∙ c.place.ensures in
    record {
      within = place_within levels space place stands;
      stands = stands;
      opened = sym (c.status_at.ensures (layer_of levels space) (place_own levels space place stands)) ∙ c.in-Open.is;
    }
