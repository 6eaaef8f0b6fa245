use Rattle.fd_trees.proofs.OrderLaws.{order_law}
use Rattle.fd_trees.proofs.order_law.Goals as goal

pub returns : goal.returns
returns c = order_law
