use Rattle.std.proofs.Common.{◌≡◌, [], ◌∷◌, refl, ap, ◌∙◌}
use Rattle.oz_semantics.specs.Configurations.{layer_of}
use Rattle.oz_semantics.specs.Changes.{CountsProcedure}
use Rattle.oz_semantics.specs.Effects.{procedure_made}
use Rattle.oz_semantics.specs.declared.value.Value.TheVariants as value
use Rattle.oz_semantics.specs.declared.value.Tell.TheVariants.{Is}
use Rattle.oz_acts.proofs.DoneLaws.{tells_done}
use Rattle.oz_acts.proofs.ActLaws.{made_procedure}
use Rattle.oz_acts.proofs.acts.make_procedure.Goals as goal

pub returns-clause-ok : goal.returns-clause-ok
returns-clause-ok c =
    let space = c.args.id.now.space in
    let old = c.args.levels.now in
    let l = layer_of old space in
    let x = c.args.variable in
    let closure = c.args.closure.now in
    let parameters = c.in_ok-copied-2.field-0 in
    let body = c.in_ok-copied-3.field-0 in
    let gathered = c.in_ok-gathered.field-0 in
    let made = procedure_made l closure.parameters closure.body closure.environment in
    let same =
    made_procedure old space c.in_ok-copied.field-0 c.next_of-next.result parameters body gathered c.next_of-next.ensures c.in_ok-copied.ensures
    ∙ ap (procedure_made l parameters body) c.in_ok-gathered.ensures
    ∙ ap (λ b. procedure_made l parameters b closure.environment) c.in_ok-copied-3.ensures
    ∙ ap (λ ps. procedure_made l ps closure.body closure.environment) c.in_ok-copied-2.ensures in
    let p = c.in_ok-new.field-0 in
    let ts = Is x (value.Procedure p) ∷ [] in
    let us = Is x (value.Procedure made) ∷ [] in
    let equal : ts ≡ us = ap (λ q. Is x (value.Procedure q) ∷ []) (c.in_ok-new.ensures ∙ same) in
    tells_done c.args.id.now ts us (CountsProcedure ∷ []) (CountsProcedure ∷ []) old c.tell_by.new.self c.tell_by.result equal refl c.tell_by.ensures.told
