use Rattle.search_crew.proofs.crew.+explore_together+fn-explore_together-join+arg2.Given as goal

abbrev pub decreases-explore_together : goal.decreases-explore_together
decreases-explore_together g l = l.count

abbrev pub decreases-join+arg2 : goal.decreases-join+arg2
decreases-join+arg2 g l = l.others
