use Rattle.search_crew.proofs.EndLaws.{over_stays}
use Rattle.search_crew.proofs.crew.joined.Goals as goal

pub returns-clause-over : goal.returns-clause-over
returns-clause-over g c =
    over_stays g.T.Kind.SearchKind.search g.met.T.Kind.SearchKind.searches _ _ c.join.result.seen c.join.ensures.legal.0 c.join.ensures.joined.first.later c.requires.over
