use Rattle.fd_form_law.proofs.CostLaws.{cost_law}
use Rattle.fd_form_law.proofs.cost_law.Goals as goal

pub returns : goal.returns
returns c = cost_law
