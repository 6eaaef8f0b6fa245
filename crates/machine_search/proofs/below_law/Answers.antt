use Rattle.machine_search.proofs.VisitLaws.{below_law}
use Rattle.machine_search.proofs.below_law.Goals as goal

pub returns : goal.returns
returns c = below_law
