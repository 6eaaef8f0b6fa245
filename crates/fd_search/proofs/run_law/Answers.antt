use Rattle.fd_search.proofs.BackLaws.{steps_law}
use Rattle.fd_search.proofs.RunLaws as runs
use Rattle.fd_search.proofs.run_law.Goals as goal

pub returns : goal.returns
returns c = record { steps = steps_law; runs = runs.run_law }
