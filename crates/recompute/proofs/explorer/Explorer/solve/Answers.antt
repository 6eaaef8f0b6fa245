use Rattle.std.proofs.Common.{◌≡◌, IfOk, subst}
use Rattle.recompute.specs.Origins.{met_by}
use Rattle.recompute.specs.Ways.{answer_of}
use Rattle.recompute.specs.declared.explorer.Solved.{Solved}
use Rattle.recompute.proofs.explorer.Explorer.solve.Goals as goal

pub returns-clause-solved : goal.returns-clause-solved
returns-clause-solved g c =
    subst (λ (x : g.row.T.Denot). IfOk c.walk.result (λ (s : Solved g.row.T-Kind-Leaf.Denot). s ≡ answer_of (met_by g.T.Kind.SearchKind.search (g.T.Source.maker x) (g.T.Source.origin x) c.args.fuel c.args.path.now)))
    c.self.view_is (rw c.as_slice.ensures at c.walk.ensures.solved)
