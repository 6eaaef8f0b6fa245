use Rattle.std.proofs.Common.{◌≡◌, [], ◌∷◌, length, refl, ap}
use Rattle.oz_semantics.specs.Names.{named}
use Rattle.oz_semantics.specs.Configurations.{layer_of}
use Rattle.oz_semantics.specs.Changes.{AddsPort}
use Rattle.oz_semantics.specs.declared.value.Value.TheVariants as value
use Rattle.oz_semantics.specs.declared.value.Tell.TheVariants.{Is}
use Rattle.oz_acts.proofs.DoneLaws.{tells_done}
use Rattle.oz_acts.proofs.ActLaws.{own_named}
use Rattle.oz_acts.proofs.objects.make_port.Goals as goal

pub returns-clause-ok : goal.returns-clause-ok
returns-clause-ok c =
    let space = c.args.id.now.space in
    let old = c.args.levels.now in
    let l = layer_of old space in
    let x = c.args.variable in
    let name = c.in_ok-named.field-0 in
    let number = length l.ports in
    let same = own_named old space name c.port_count-number.result number c.in_ok-named.ensures c.port_count-number.ensures in
    let ts = Is x (value.Port name) ∷ [] in
    let us = Is x (value.Port (named l.space number)) ∷ [] in
    let equal : ts ≡ us = ap (λ n. Is x (value.Port n) ∷ []) same in
    let changes = AddsPort c.args.stream ∷ [] in
    tells_done c.args.id.now ts us changes changes old c.tell_by.new.self c.tell_by.result equal refl c.tell_by.ensures.told
