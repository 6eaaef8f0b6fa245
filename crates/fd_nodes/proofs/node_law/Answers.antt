use Rattle.fd_nodes.proofs.NodeLaws.{nodes_law, found_law}
use Rattle.fd_nodes.proofs.node_law.Goals as goal

pub returns : goal.returns
returns c = record { nodes = nodes_law; found = found_law }
