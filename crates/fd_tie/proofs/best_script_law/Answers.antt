use Rattle.fd_tie.proofs.BestTieLaws.{best_tie}
use Rattle.fd_tie.proofs.best_script_law.Goals as goal

pub returns : goal.returns
returns c = best_tie
