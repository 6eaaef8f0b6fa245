use Rattle.machine_search.proofs.MakerLaws.{node_law, no_node_law}
use Rattle.machine_search.proofs.node_law.Goals as goal

pub returns : goal.returns
returns c = record { made = node_law; none = no_node_law }
