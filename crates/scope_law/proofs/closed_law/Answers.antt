use Rattle.scope_law.proofs.Law.{closed_law}
use Rattle.scope_law.proofs.closed_law.Goals as goal

pub returns : goal.returns
returns c = closed_law
