use Rattle.std.proofs.Common.{◌≡◌, ℕ, [], ◌∷◌, ◌-◌, length, refl, sym, ap, ◌∙◌}
use Rattle.std.proofs.lemmas.List.{length-map}
use Rattle.oz_semantics.specs.Terms.{term_tells, nodes_inside}
use Rattle.oz_semantics.specs.Configurations.{layer_of}
use Rattle.oz_semantics.specs.Changes.{GivesOut}
use Rattle.oz_raise.specs.Nodes.{node_of, term_of}
use Rattle.oz_acts.proofs.DoneLaws.{tells_done}
use Rattle.oz_acts.proofs.ActLaws.{given_tells, nodes_inside-length}
use Rattle.oz_acts.proofs.acts.give_term.Goals as goal

pub returns-clause-ok : goal.returns-clause-ok
returns-clause-ok c =
    let space = c.args.id.now.space in
    let old = c.args.levels.now in
    let l = layer_of old space in
    let x = c.args.variable.now in
    let nodes = c.args.nodes.now in
    let t = term_of nodes in
    let ts = c.deref.result.now in
    let same = given_tells old space c.next_of-next.result x t t ts c.next_of-next.ensures refl (c.deref.ensures.value ∙ c.in_ok-tells.ensures) in
    let long : length nodes ≡ length t = sym (length-map nodes node_of) in
    let count : c.saturating_sub-count.result ≡ nodes_inside t = c.saturating_sub-count.ensures ∙ ap (λ n. n - 1) long ∙ sym (nodes_inside-length t) in
    tells_done c.args.id.now ts (term_tells l.space l.next.variable x t) (GivesOut c.saturating_sub-count.result ∷ []) (GivesOut (nodes_inside t) ∷ []) old c.tell_by.new.self c.tell_by.result same
    (ap (λ (n : ℕ). GivesOut n ∷ []) count) c.tell_by.ensures.told
