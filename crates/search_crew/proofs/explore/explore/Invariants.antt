use Rattle.search_crew.specs.Crews.{IsReady, IsSame}
use Rattle.search_crew.proofs.explore.explore.Given as goal

-- the worker has nothing out
abbrev pub invariant-nodes : goal.invariant-nodes
invariant-nodes g l = record {
  ready : IsReady l.pool l.worker;
  same : IsSame l.fn.first l.worker;
}
