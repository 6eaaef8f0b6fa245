use Rattle.std.proofs.Common.{◌≡◌, Result, sym, ap, subst, ◌∙◌}
use Rattle.recompute.proofs.PlaceLaws.{opens_there}
use Rattle.recompute.proofs.placed.Placed.open_last.Goals as goal

pub opened_last-requires : goal.opened_last-requires
opened_last-requires g c = c.self.invariant.0 ∙ sym (ap (λ (x : g.row.T.Denot). (g.T.Source.origin x).kernel) c.requires.start)

pub returns : goal.returns
returns g c =
    opens_there g.T.Kind.SearchKind.search g.T.Source.maker (g.T.Source.origin g.S.Start.start) c.self.inside.path c.args.self c.self.inside.node c.args.branch c.args.source.now g.S.Start.start c.opened_last.result
    c.requires.start c.self.view_is c.self.invariant c.opened_last.ensures
