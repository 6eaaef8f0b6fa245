use Rattle.fd_trees.proofs.EndLaws.{ends_law}
use Rattle.fd_trees.proofs.SimulationLaws.{tree_law}
use Rattle.fd_trees.proofs.end_law.Goals as goal

pub returns : goal.returns
returns c = record { tree = tree_law; levels = ends_law }
