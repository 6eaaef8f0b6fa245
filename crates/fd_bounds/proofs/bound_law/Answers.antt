use Rattle.fd_bounds.proofs.BoundLaws.{best_law, bounded_law}
use Rattle.fd_bounds.proofs.BoundedSimulationLaws.{unbounded_law}
use Rattle.fd_bounds.proofs.BestLaws.{best_answer_law}
use Rattle.fd_bounds.proofs.bound_law.Goals as goal

pub returns : goal.returns
returns c = record { best = best_law; leaves = bounded_law; answer = best_answer_law; unbounded = unbounded_law }
