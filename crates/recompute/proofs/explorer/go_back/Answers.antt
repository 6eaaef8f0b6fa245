use Rattle.std.proofs.Common.{sym}
use Rattle.recompute.proofs.WayLaws.{leads}
use Rattle.recompute.proofs.explorer.go_back.Goals as goal

pub returns-in-Some-clause-rest : goal.returns-in-Some-clause-rest
returns-in-Some-clause-rest g c =
    let x = c.args.source.now in
    leads g.T.Kind.SearchKind.search (g.T.Source.maker x) (g.met.T.Source.makes x) g.met.T.Kind.SearchKind.searches (g.T.Source.origin x) c.args.fuel c.nodes.way.items c.args.path.now c.in-Some.rest.now c.nodes.invariant
    (sym (rw c.as_slice.ensures.value at c.in-Some.ensures))

pub nodes-preserved : goal.nodes-preserved
nodes-preserved g c = let x = c.args.source.now in c.drop_last.ensures.way (g.T.Source.maker x) (g.T.Source.origin x) c.nodes.invariant
