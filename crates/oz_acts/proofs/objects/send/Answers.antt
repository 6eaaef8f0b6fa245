use Rattle.std.proofs.Common.{◌≡◌, [], ◌∷◌, ap, ◌∙◌}
use Rattle.oz_semantics.specs.Configurations.{layer_of, end_of}
use Rattle.oz_semantics.specs.Changes.{GivesOut, EndsAt}
use Rattle.oz_semantics.specs.Effects.{new_end, stream_value}
use Rattle.oz_semantics.specs.declared.configuration.Next.{Next}
use Rattle.oz_semantics.specs.declared.value.Tell.TheVariants.{Is}
use Rattle.oz_acts.proofs.DoneLaws.{tells_done}
use Rattle.oz_acts.proofs.ActLaws.{own_named}
use Rattle.oz_acts.proofs.objects.send.Goals as goal

pub returns-clause-ok : goal.returns-clause-ok
returns-clause-ok c =
    let space = c.args.id.now.space in
    let old = c.args.levels.now in
    let l = layer_of old space in
    let port = c.args.port in
    let item = c.args.item in
    let x = c.in_ok-variable.variable in
    let v = c.in_ok-value.value in
    let end = c.in_ok-end.end in
    let ends : end ≡ new_end l = own_named old space end c.next_of-next.result.variable l.next.variable c.in_ok-end.ensures (ap (λ (n : Next). n.variable) c.next_of-next.ensures) in
    let holds : v ≡ stream_value item (new_end l) = c.in_ok-value.ensures ∙ ap (stream_value item) (c.in_ok-copied.ensures ∙ ends) in
    let ts = Is x v ∷ [] in
    let us = Is (end_of l port) (stream_value item (new_end l)) ∷ [] in
    let equal : ts ≡ us = ap (λ y. Is y v ∷ []) c.in_ok-variable.ensures ∙ ap (λ w. Is (end_of l port) w ∷ []) holds in
    let moves : GivesOut 1 ∷ EndsAt port end ∷ [] ≡ GivesOut 1 ∷ EndsAt port (new_end l) ∷ [] = ap (λ y. GivesOut 1 ∷ EndsAt port y ∷ []) ends in
    tells_done c.args.id.now ts us (GivesOut 1 ∷ EndsAt port end ∷ []) (GivesOut 1 ∷ EndsAt port (new_end l) ∷ []) old c.tell_by.new.self c.tell_by.result equal moves c.tell_by.ensures.told
