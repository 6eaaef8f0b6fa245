use Rattle.fd_best.proofs.SolvesLaws.{solves_law}
use Rattle.fd_best.proofs.solves_law.Goals as goal

pub returns : goal.returns
returns c = solves_law
