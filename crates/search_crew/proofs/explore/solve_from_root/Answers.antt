use Rattle.std.proofs.Common.{◌≡◌, ℕ, ap, subst, ◌∙◌}
use Rattle.recompute.specs.Origins.{Origin, met_by}
use Rattle.recompute.specs.Ways.{answer_of}
use Rattle.search_crew.proofs.explore.solve_from_root.Goals as goal

pub returns : goal.returns
returns g c =
    let k = g.T.Kind.SearchKind.search in
    let fuel : c.budget.result ≡ (g.T.Source.origin c.args.source.now).budget = c.budget.ensures.budget ∙ ap (λ (o : Origin). o.budget) c.frozen.ensures in
    subst (λ (n : ℕ). c.in_ok-solved.solved ≡ answer_of (met_by k (g.T.Source.maker c.args.source.now) (g.T.Source.origin c.args.source.now) n c.args.path.now)) fuel
    (subst (λ (x : g.row.T.Denot). c.in_ok-solved.solved ≡ answer_of (met_by k (g.T.Source.maker x) (g.T.Source.origin x) c.budget.result c.args.path.now)) c.in_ok-explorer.ensures c.in_ok-solved.ensures.solved)
