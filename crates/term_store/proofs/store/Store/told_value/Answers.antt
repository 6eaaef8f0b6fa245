use Rattle.std.proofs.Common.{◌∙◌, sym, ap}
use Rattle.std.specs.Option.{option_and_then}
use Rattle.term_store.specs.Places.{value_at}
use Rattle.term_store.proofs.PlaceLaws.{value_at_place}
use Rattle.term_store.proofs.store.Store.told_value.Goals as goal

pub returns-in-None : goal.returns-in-None
returns-in-None c = ap (option_and_then (value_at c.args.self.now)) (sym c.in-None.is) ∙ value_at_place c.args.self.now c.args.variable.now c.value_place.result c.value_place.ensures

pub returns-in-Some : goal.returns-in-Some
returns-in-Some c =
    c.value.ensures
    ∙ ap (λ ts. value_at ts c.in-Some.place) c.self.view_is
    ∙ ap (option_and_then (value_at c.args.self.now)) (sym c.in-Some.is)
    ∙ value_at_place c.args.self.now c.args.variable.now c.value_place.result c.value_place.ensures
