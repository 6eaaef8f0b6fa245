use Rattle.std.proofs.Common.{◌≡◌, ◌∙◌, length, sym, ap, arith}
use Rattle.std.proofs.lemmas.List.{length-map}
use Rattle.oz_semantics.specs.Names.{named}
use Rattle.oz_semantics.specs.Exceptions.{raise_term}
use Rattle.oz_semantics.specs.declared.configuration.Next.{Next}
use Rattle.oz_raise.specs.Nodes.{node_of, term_of}
use Rattle.oz_machine.proofs.DoingLaws.{new_told}
use Rattle.oz_machine.proofs.raising.raised_term.Goals as goal

pub returns : goal.returns
returns c =
    let s = c.args.space.now in
    let old = c.args.levels.now in
    let nodes = c.in_ok-nodes.nodes in
    let t = raise_term c.args.kind in
    let width : length nodes.items ≡ length t = sym (length-map nodes.items node_of) ∙ ap length c.in_ok-nodes.ensures in
    let long : c.len.result ≡ length t = omega (arith, nodes.ok.0, c.len.ensures, width) in
    let same = new_told old s c.next_of-next.result (term_of c.deref.result.now) t c.in_ok-made.made.tells.items c.next_of-next.ensures
    (ap term_of c.deref.ensures.value ∙ c.in_ok-nodes.ensures) c.in_ok-made.ensures.tells in
    record {
      variable = c.in_ok-made.ensures.variable ∙ ap (λ (k : Next). named s k.variable) c.next_of-next.ensures;
      tells = same;
      count = long;
    }
