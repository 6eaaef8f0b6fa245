use Rattle.machine_search.proofs.OpeningLaws.{opening_law}
use Rattle.machine_search.proofs.RestLaws.{settled_law, root_law, chosen_law, rest_law, state_law, nodes_law}
use Rattle.machine_search.proofs.rest_law.Goals as goal

pub returns : goal.returns
returns c = record { settled = settled_law; opening = opening_law; root = root_law; chosen = chosen_law; rests = rest_law; state = state_law; nodes = nodes_law }
