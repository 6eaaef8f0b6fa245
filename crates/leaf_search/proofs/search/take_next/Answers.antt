use Rattle.std.proofs.Common.{◌∙◌, List, sym, subst, ap}
use Rattle.leaf_search.specs.declared.open.Open.{Open}
use Rattle.leaf_search.specs.Searching.{waiting, AreOf}
use Rattle.leaf_search.proofs.Opening.{none_left}
use Rattle.leaf_search.proofs.search.take_next.Goals as goal

pub returns-then-node-gt0 : goal.returns-then-node-gt0
returns-then-node-gt0 c =
    let h = c.in_ok-open_next.ensures in
    record {
      first = sym c.nodes.invariant.same ∙ ap (waiting c.args.space.now) c.in-Some.ensures ∙ h.first;
      kernel = λ k are. h.kernel k (subst (λ (os : List Open). AreOf k os) c.in-Some.ensures (c.nodes.invariant.kernel k are));
    }

pub nodes-preserved : goal.nodes-preserved
nodes-preserved c = record {
  same = sym (none_left c.args.space.now c.in-Some.node c.pop.new.self c.if-node-gt0.false) ∙ sym (ap (waiting c.args.space.now) c.in-Some.ensures) ∙ c.nodes.invariant.same;
  kernel = λ k are. (subst (λ (os : List Open). AreOf k os) c.in-Some.ensures (c.nodes.invariant.kernel k are)).1;
}
