use Rattle.std.proofs.Common.{◌≡◌, [], List, Some, None, sym, ap, subst, ◌∙◌}
use Rattle.recompute.specs.Origins.{Origin}
use Rattle.recompute.specs.Places.{StandsAt}
use Rattle.recompute.specs.Ways.{MakesNode}
use Rattle.recompute.proofs.PlaceLaws.{root_short, root_stands, stands_solved}
use Rattle.recompute.proofs.placed.solve_root.Goals as goal

pub solved-requires : goal.solved-requires
solved-requires g c = c.in_ok-machine.ensures.kernel ∙ ap (λ (q : Origin). q.kernel) c.frozen-frozen.ensures

pub returns-in-None : goal.returns-in-None
returns-in-None g c =
    let start = g.S.Start.start in
    let m = g.T.Source.maker start in
    let at : c.frozen-frozen.result.now ≡ g.T.Source.origin start = c.frozen-frozen.ensures ∙ ap g.T.Source.origin c.requires.start in
    let made : MakesNode m c.free.result c.budget.result c.in_ok-machine.machine None =
    subst (λ (x : g.row.T.Denot). MakesNode (g.T.Source.maker x) c.free.result c.budget.result c.in_ok-machine.machine None) c.requires.start (rw c.in-None.is at c.in_ok-solved.ensures) in
    c.without_choice.ensures
    ∙ root_short g.T.Kind.SearchKind.search m (g.T.Source.origin start) c.budget.result c.free.result c.in_ok-machine.machine (c.budget.ensures.budget ∙ ap (λ (q : Origin). q.budget) at)
    (c.in_ok-machine.ensures.config ∙ ap (λ (q : Origin). q.config) at) made

pub found_node-requires : goal.found_node-requires
found_node-requires g c =
    let k = g.T.Kind.SearchKind.search in
    let start = g.S.Start.start in
    let m = g.T.Source.maker start in
    let o = g.T.Source.origin start in
    let at : c.frozen-frozen.result.now ≡ o = c.frozen-frozen.ensures ∙ ap g.T.Source.origin c.requires.start in
    let made : MakesNode m c.free.result c.budget.result c.in_ok-machine.machine (Some c.in-Some.node) =
    subst (λ (x : g.row.T.Denot). MakesNode (g.T.Source.maker x) c.free.result c.budget.result c.in_ok-machine.machine (Some c.in-Some.node)) c.requires.start (rw c.in-Some.is at c.in_ok-solved.ensures) in
    subst (λ (p : List g.row.T-Kind-Branch.Denot). StandsAt k m o p c.in-Some.node) (sym c.root.ensures)
    (root_stands k m o c.budget.result c.free.result c.in_ok-machine.machine c.in-Some.node (c.budget.ensures.budget ∙ ap (λ (q : Origin). q.budget) at)
    (c.in_ok-machine.ensures.kernel ∙ ap (λ (q : Origin). q.kernel) at) (c.in_ok-machine.ensures.config ∙ ap (λ (q : Origin). q.config) at) made)

pub returns-in-Some : goal.returns-in-Some
returns-in-Some g c =
    let k = g.T.Kind.SearchKind.search in
    let start = g.S.Start.start in
    let m = g.T.Source.maker start in
    let o = g.T.Source.origin start in
    let at : c.frozen-frozen.result.now ≡ o = c.frozen-frozen.ensures ∙ ap g.T.Source.origin c.requires.start in
    let made : MakesNode m c.free.result c.budget.result c.in_ok-machine.machine (Some c.in-Some.node) =
    subst (λ (x : g.row.T.Denot). MakesNode (g.T.Source.maker x) c.free.result c.budget.result c.in_ok-machine.machine (Some c.in-Some.node)) c.requires.start (rw c.in-Some.is at c.in_ok-solved.ensures) in
    let stands = root_stands k m o c.budget.result c.free.result c.in_ok-machine.machine c.in-Some.node (c.budget.ensures.budget ∙ ap (λ (q : Origin). q.budget) at)
    (c.in_ok-machine.ensures.kernel ∙ ap (λ (q : Origin). q.kernel) at) (c.in_ok-machine.ensures.config ∙ ap (λ (q : Origin). q.config) at) made in
    c.found_node.ensures ∙ stands_solved k m o [] c.in-Some.node stands
