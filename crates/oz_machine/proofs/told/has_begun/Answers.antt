use Rattle.std.proofs.Common.{◌≡◌, ◌==◌, suc, arith, true, List, [], ◌∷◌, length, refl, ap, sym, ◌∙◌}
use Rattle.std.specs.Prelude.{unwrap_or}
use Rattle.oz_semantics.specs.Configurations.{new_layer}
use Rattle.oz_semantics.specs.declared.configuration.Layer.{Layer}
use Rattle.oz_semantics.specs.declared.configuration.Trigger.{Trigger}
use Rattle.oz_laws.proofs.SameLaws.{eq-true}
use Rattle.oz_acts.proofs.PlaceLaws.{place_some, place_none}
use Rattle.oz_machine.proofs.told.has_begun.Goals as goal

none_left : (ts : List Trigger) → (length ts == 0) ≡ true → ts ≡ []
none_left [] e = refl
none_left (t ∷ ts) e = absurd (let q : suc (length ts) ≡ 0 = eq-true (suc (length ts)) 0 e in omega (arith, q))

pub returns-in-None : goal.returns-in-None
returns-in-None c = λ e.
    let levels = c.args.levels.now in
    let id = c.args.id.now in
    ap (λ o. (unwrap_or {T = Layer} o (new_layer id.space)).triggers) (place_none levels id.space (sym c.in-None.is ∙ c.place.ensures))

pub returns-in-Some : goal.returns-in-Some
returns-in-Some c = λ e.
    let levels = c.args.levels.now in
    let id = c.args.id.now in
    let there = place_some levels id.space c.in-Some.place (sym c.in-Some.is ∙ c.place.ensures) in
    ap (λ o. (unwrap_or {T = Layer} o (new_layer id.space)).triggers) there.1.found
    ∙ sym (c.triggers_at.ensures there.0 there.1.item)
    ∙ none_left c.triggers_at.result.now (sym c.is_empty.ensures ∙ e)
