use Rattle.fd_form_law.proofs.BestTieLaws.{best_tie_suffices}
use Rattle.fd_form_law.proofs.best_ties_law.Goals as goal

pub returns : goal.returns
returns c = best_tie_suffices
