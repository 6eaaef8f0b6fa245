use Rattle.std.proofs.Common.{◌≡◌, ◌∙◌, sym, subst, Option, unwrap_or}
use Rattle.std.specs.Prelude.{IfOk}
use Rattle.oz_base.specs.declared.names.Ident.{Ident}
use Rattle.environments.specs.Environments.{nowhere}
use Rattle.oz_semantics.specs.Configurations.{layer_of, content_of}
use Rattle.oz_semantics.specs.declared.configuration.Layer.{Layer}
use Rattle.oz_acts.proofs.PlaceLaws.{place_own, place_new}
use Rattle.oz_acts.proofs.numbers.content_of.Goals as goal

pub returns-in-Some : goal.returns-in-Some
returns-in-Some c =
    let levels = c.args.levels.now in
    let space = c.args.space.now in
    let is = c.content_at.ensures (layer_of levels space) (place_own levels space c.in-Some.place (sym c.in-Some.is ∙ c.place.ensures)) in
    subst (λ (o : Option Ident). IfOk c.copied_or_nowhere.result (λ x. x ≡ unwrap_or o nowhere)) is c.copied_or_nowhere.ensures

pub returns-in-None : goal.returns-in-None
returns-in-None c =
    let new = place_new c.args.levels.now c.args.space.now (sym c.in-None.is ∙ c.place.ensures) in
    subst (λ (l : Layer). IfOk c.nowhere.result (λ x. x ≡ content_of l c.args.cell)) (sym new) c.nowhere.ensures
