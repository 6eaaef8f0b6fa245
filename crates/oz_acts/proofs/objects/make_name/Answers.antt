use Rattle.std.proofs.Common.{◌≡◌, [], ◌∷◌, refl, ap}
use Rattle.oz_semantics.specs.Names.{named}
use Rattle.oz_semantics.specs.Configurations.{layer_of}
use Rattle.oz_semantics.specs.Changes.{CountsName}
use Rattle.oz_semantics.specs.declared.configuration.Next.{Next}
use Rattle.oz_semantics.specs.declared.value.Value.TheVariants as value
use Rattle.oz_semantics.specs.declared.value.Tell.TheVariants.{Is}
use Rattle.oz_acts.proofs.DoneLaws.{tells_done}
use Rattle.oz_acts.proofs.ActLaws.{own_named}
use Rattle.oz_acts.proofs.objects.make_name.Goals as goal

pub returns-clause-ok : goal.returns-clause-ok
returns-clause-ok c =
    let space = c.args.id.now.space in
    let old = c.args.levels.now in
    let l = layer_of old space in
    let x = c.args.variable in
    let name = c.in_ok-named.field-0 in
    let same = own_named old space name c.next_of-next.result.name l.next.name c.in_ok-named.ensures (ap (λ (n : Next). n.name) c.next_of-next.ensures) in
    let ts = Is x (value.Name name) ∷ [] in
    let us = Is x (value.Name (named l.space l.next.name)) ∷ [] in
    let equal : ts ≡ us = ap (λ n. Is x (value.Name n) ∷ []) same in
    tells_done c.args.id.now ts us (CountsName ∷ []) (CountsName ∷ []) old c.tell_by.new.self c.tell_by.result equal refl c.tell_by.ensures.told
