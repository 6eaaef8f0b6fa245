use Rattle.fd_search.proofs.BestBackLaws.{steps_below_law}
use Rattle.fd_search.proofs.BestRunLaws.{run_below_law}
use Rattle.fd_search.proofs.best_run_law.Goals as goal

pub returns : goal.returns
returns c = record { steps = steps_below_law; runs = run_below_law }
