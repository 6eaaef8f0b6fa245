use Rattle.fd_best.proofs.OptimumLaws.{optimum_law}
use Rattle.fd_best.proofs.optimum_law.Goals as goal

pub returns : goal.returns
returns c = optimum_law
