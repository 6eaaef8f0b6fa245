use Rattle.fd_form_law.proofs.BestTieLaws.{best_tie_suffices}
use Rattle.fd_tie.proofs.BestTieLaws.{best_tie}
use Rattle.fd_tie.proofs.optimal_law.Goals as goal

pub returns : goal.returns
returns c = best_tie_suffices best_tie
