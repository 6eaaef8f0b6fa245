use Rattle.search_crew.proofs.EndLaws.{stops}
use Rattle.search_crew.proofs.explore.run_out.Goals as goal

pub returns-clause-explored : goal.returns-clause-explored
returns-clause-explored g c = stops g.T.Kind.SearchKind.search c.args.pool.now _ c.args.worker c.stop.result c.requires.pool c.stop.ensures.same c.stop.ensures.turn
