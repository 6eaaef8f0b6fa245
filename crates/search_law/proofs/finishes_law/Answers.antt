use Rattle.search_law.proofs.OneWorkerLaws.{finishes_law}
use Rattle.search_law.proofs.finishes_law.Goals as goal

pub returns : goal.returns
returns g = finishes_law
