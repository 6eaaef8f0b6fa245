use Rattle.machine_search.proofs.RunLaws.{bound_law}
use Rattle.machine_search.proofs.bound_law.Goals as goal

pub returns : goal.returns
returns c = bound_law
