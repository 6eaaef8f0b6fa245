use Rattle.std.proofs.Common.{◌≡◌, List, [], ◌∷◌, ◌++◌, ap, sym, ◌∙◌}
use Rattle.search_crew.proofs.NearLaws.{solved_there}
use Rattle.search_crew.proofs.explore.solve_near.Goals as goal

pub returns : goal.returns
returns g c =
    let before : c.in-Some-found.choice ≡ c.in-Some.before.now = rw c.in-Some-found.is at c.in_ok-found.ensures in
    let path : c.in-Some-found.choice ++ c.in-Some.branch.now ∷ [] ≡ c.args.path.now =
    ap (λ (p : List g.row.T-Kind-Branch.Denot). p ++ c.in-Some.branch.now ∷ []) before ∙ sym c.in-Some.ensures.cases.0 ∙ c.as_slice.ensures in
    solved_there g.T.Kind.SearchKind.search g.T.Source.maker g.T.Source.origin (λ found. found.solved) c.solve_child.result c.args.source.now g.S.Start.start (c.in-Some-found.choice ++ c.in-Some.branch.now ∷ []) c.args.path.now c.requires.start path c.solve_child.ensures
