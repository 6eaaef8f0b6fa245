use Rattle.std.proofs.Common.{◌≡◌, ◌≤◌, ◌^◌, ℕ, IfOk, List, Ok, sym, ap, subst, ◌∙◌}
use Rattle.pool_state.specs.declared.pool.Claimed.{Claimed}
use Rattle.recompute.specs.Origins.{Origin, met_by}
use Rattle.recompute.specs.Ways.{answer_of}
use Rattle.recompute.specs.declared.explorer.Solved.{Solved}
use Rattle.search_crew.proofs.EndLaws.{finishes}
use Rattle.search_crew.proofs.explore.explore.Goals as goal

pub close_claim-requires-clause-small : goal.close_claim-requires-clause-small
close_claim-requires-clause-small g c =
    subst (λ (b : ℕ). b ≤ 2 ^ 48) (ap (λ (o : Origin). o.budget) c.frozen.ensures ∙ sym c.requires.tree.1) c.small.ensures

pub close_claim-requires-clause-solved : goal.close_claim-requires-clause-solved
close_claim-requires-clause-solved g c =
    let k = g.T.Kind.SearchKind.search in
    subst (λ (b : ℕ). IfOk c.solve-solved.result (λ (s : Solved g.row.T-Kind-Leaf.Denot). s ≡ answer_of (met_by k (g.T.Source.maker c.args.pool.now.tag) (g.T.Source.origin c.args.pool.now.tag) b c.in-Ok-Node.path))) (sym c.requires.tree.1)
    (subst (λ (x : g.row.T.Denot). IfOk c.solve-solved.result (λ (s : Solved g.row.T-Kind-Leaf.Denot). s ≡ answer_of (met_by k (g.T.Source.maker x) (g.T.Source.origin x) (g.T.Source.origin c.args.source.now).budget c.in-Ok-Node.path))) (sym c.requires.tree.0) c.solve-solved.ensures)

pub returns-in-Ok-Finished : goal.returns-in-Ok-Finished
returns-in-Ok-Finished g c =
    finishes g.T.Kind.SearchKind.search c.args.pool.now c.args.first c.nodes.worker c.claim-taken.result.0 c.claim-taken.result.1 c.nodes.invariant.ready c.nodes.invariant.same c.claim-taken.ensures.same c.claim-taken.ensures.turn (c.in-Ok-Finished.is ∙ ap (λ (x : Claimed (List g.row.T-Kind-Branch.Denot)). Ok x) c.in-Ok-Finished.field-0-is)
