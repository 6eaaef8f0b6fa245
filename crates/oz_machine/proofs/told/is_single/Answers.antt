use Rattle.std.proofs.Common.{ap, sym, ◌∙◌}
use Rattle.std.specs.Prelude.{unwrap_or}
use Rattle.std.specs.List.{list_all}
use Rattle.oz_semantics.specs.Configurations.{is_numbered, new_layer}
use Rattle.oz_semantics.specs.declared.configuration.Layer.{Layer}
use Rattle.oz_acts.proofs.PlaceLaws.{place_some, place_none}
use Rattle.oz_machine.proofs.told.is_single.Goals as goal

pub returns-in-None : goal.returns-in-None
returns-in-None c = λ e.
    let levels = c.args.levels.now in
    let id = c.args.id.now in
    ap (λ o. list_all (is_numbered id.number) (unwrap_or {T = Layer} o (new_layer id.space)).threads) (place_none levels id.space (sym c.in-None.is ∙ c.place.ensures))

pub returns-in-Some : goal.returns-in-Some
returns-in-Some c = λ e.
    let levels = c.args.levels.now in
    let id = c.args.id.now in
    let there = place_some levels id.space c.in-Some.place (sym c.in-Some.is ∙ c.place.ensures) in
    ap (λ o. list_all (is_numbered id.number) (unwrap_or {T = Layer} o (new_layer id.space)).threads) there.1.found
    ∙ ap (list_all (is_numbered id.number)) (sym (c.threads_at.ensures there.0 there.1.item))
    ∙ sym c.are_numbered.ensures ∙ e
