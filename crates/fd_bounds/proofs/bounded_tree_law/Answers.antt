use Rattle.fd_bounds.proofs.BoundedTreeLaws.{bounded_tree_law}
use Rattle.fd_bounds.proofs.bounded_tree_law.Goals as goal

pub returns : goal.returns
returns c = bounded_tree_law
