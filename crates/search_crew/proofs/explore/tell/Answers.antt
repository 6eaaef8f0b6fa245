use Rattle.search_crew.proofs.EndLaws.{told}
use Rattle.search_crew.proofs.explore.tell.Goals as goal

pub returns-in-End-clause-told : goal.returns-in-End-clause-told
returns-in-End-clause-told g c = told g.T.Kind.SearchKind.search _ _ _ c.args.worker c.leaf.result.0 c.leaf.result.1 c.leaf.ensures.claim c.leaf.ensures.turn

pub returns-else-count-eq0-clause-told : goal.returns-else-count-eq0-clause-told
returns-else-count-eq0-clause-told g c = told g.T.Kind.SearchKind.search _ _ _ c.args.worker c.split.result.0 c.split.result.1 c.split.ensures.claim c.split.ensures.turn
