use Rattle.std.proofs.Common.{◌≡◌, ◌∙◌, sym, ap}
use Rattle.std.specs.Option.{option_and_then}
use Rattle.oz_semantics.specs.BestSearch.{field_in}
use Rattle.oz_semantics.specs.Configurations.{view}
use Rattle.oz_semantics.specs.Store.{View, value_of}
use Rattle.oz_semantics.specs.Values.{integer_in}
use Rattle.oz_acts.proofs.PlaceLaws.{place_view}
use Rattle.oz_machine.proofs.bounding.field_in.Goals as goal

pub returns : goal.returns
returns c =
    let levels = c.args.levels.now in
    let space = c.args.space.now in
    let store = c.store_at-store.result.now in
    let seen : store ≡ view levels space = place_view levels space c.in-Some.place store (sym c.in-Some.is ∙ c.place.ensures) c.store_at-store.ensures in
    c.integer_at.ensures
    ∙ ap (option_and_then (λ x. option_and_then integer_in (value_of store x))) c.in_ok-field.ensures
    ∙ ap (λ (v : View). field_in v space c.args.feature) seen
