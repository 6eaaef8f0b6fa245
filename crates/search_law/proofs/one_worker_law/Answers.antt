use Rattle.search_law.proofs.Alone.{one_worker_law}
use Rattle.search_law.proofs.one_worker_law.Goals as goal

pub returns : goal.returns
returns g = one_worker_law
