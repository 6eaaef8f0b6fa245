use Rattle.std.proofs.Common.{◌≡◌, ◌∙◌, List, [], ◌∷◌, None, sym, subst, ap, ap₂, refl}
use Rattle.oz_language.specs.declared.kernel.Kernel.{Kernel}
use Rattle.oz_search.specs.declared.leaf.Outcome.{Outcome}
use Rattle.oz_semantics.specs.Search.{node_at}
use Rattle.oz_semantics.specs.declared.configuration.Configuration.{Configuration}
use Rattle.machine_search.specs.Visits.{Visits, found_from, leaves_of}
use Rattle.machine_search.proofs.VisitLaws.{begins_law, visits_law, stops_law}
use Rattle.leaf_search.specs.declared.open.Open.{Open}
use Rattle.leaf_search.specs.Searching.{waiting, AreOf}
use Rattle.leaf_search.proofs.search.depth_first.Goals as goal

pub returns-in_default : goal.returns-in_default
returns-in_default g c =
    let k = c.args.root.kernel in
    let space = c.args.space.now in
    ap leaves_of
    (sym (stops_law k space c.args.root.config c.args.fuel [] [] (rw c.in_default.is at c.in_ok-left.ensures.finds))
    ∙ begins_law k space c.args.root.config c.args.fuel)

pub nodes-init : goal.nodes-init
nodes-init g c =
    let k = c.args.root.kernel in
    let space = c.args.space.now in
    let v = rw c.in-Some.is at c.in_ok-left.ensures.finds in
    record {
      kernel = c.in_ok-left.ensures.kernel k (subst (λ (os : List Open). AreOf k os) (sym c.new-opened.ensures) tt) refl;
      found =
          (visits_law k space c.args.root.config c.args.fuel c.in-Some.left _ _ _ _ v).1
          ∙ ap₂ (λ (ls : List Outcome) (os : List Open). found_from k space ls (c.args.root.config ∷ waiting space os) c.args.fuel) c.new-leaves.ensures c.new-opened.ensures
          ∙ begins_law k space c.args.root.config c.args.fuel;
    }

pub returns-in_default-3 : goal.returns-in_default-3
returns-in_default-3 g c =
    let k = c.args.root.kernel in
    let space = c.args.space.now in
    let i = c.nodes.invariant in
    let next = rw c.in-Some-2.is at c.in_ok-machine.ensures in
    let none = subst (λ (q : Kernel). node_at q space c.nodes.left c.in-Some-2.machine.config ≡ None) (next.kernel k i.kernel).0 (rw c.in_default-3.is at c.in_ok-after.ensures.finds) in
    ap leaves_of
    (sym (stops_law k space c.in-Some-2.machine.config c.nodes.left (waiting space c.take_next.new.opened) c.nodes.leaves none)
    ∙ ap (λ (cs : List Configuration). found_from k space c.nodes.leaves cs c.nodes.left) (sym next.first)
    ∙ i.found)

pub nodes-smaller : goal.nodes-smaller
nodes-smaller g c =
    let v = rw c.in-Some-3.is at c.in_ok-after.ensures.finds in
    (visits_law c.in-Some-2.machine.kernel c.args.space.now c.in-Some-2.machine.config c.nodes.left c.in-Some-3.after _ _ _ _ v).0

pub nodes-preserved : goal.nodes-preserved
nodes-preserved g c =
    let k = c.args.root.kernel in
    let space = c.args.space.now in
    let i = c.nodes.invariant in
    let next = rw c.in-Some-2.is at c.in_ok-machine.ensures in
    let same = next.kernel k i.kernel in
    let v = subst (λ (q : Kernel). Visits q space c.in-Some-2.machine.config c.nodes.left c.in-Some-3.after (waiting space c.take_next.new.opened) (waiting space c.visit-visited-in-Some-2.new.opened) c.nodes.leaves c.visit-visited-in-Some-2.new.leaves)
    same.0 (rw c.in-Some-3.is at c.in_ok-after.ensures.finds) in
    record {
      kernel = c.in_ok-after.ensures.kernel k same.1 same.0;
      found =
          (visits_law k space c.in-Some-2.machine.config c.nodes.left c.in-Some-3.after _ _ _ _ v).1
          ∙ ap (λ (cs : List Configuration). found_from k space c.nodes.leaves cs c.nodes.left) (sym next.first)
          ∙ i.found;
    }
