use Rattle.std.proofs.Common.{ap, sym, ◌∙◌}
use Rattle.oz_semantics.specs.Configurations.{layer_of}
use Rattle.oz_semantics.specs.declared.configuration.Layer.{Layer}
use Rattle.oz_acts.proofs.PlaceLaws.{place_own, place_new}
use Rattle.oz_acts.proofs.numbers.next_of.Goals as goal

pub returns-in-Some : goal.returns-in-Some
returns-in-Some c =
    let levels = c.args.levels.now in
    let space = c.args.space.now in
    c.next_at.ensures (layer_of levels space) (place_own levels space c.in-Some.place (sym c.in-Some.is ∙ c.place.ensures))

pub returns-in-None : goal.returns-in-None
returns-in-None c = ap (λ (l : Layer). l.next) (sym (place_new c.args.levels.now c.args.space.now (sym c.in-None.is ∙ c.place.ensures)))
