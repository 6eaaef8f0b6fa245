use Rattle.machine_search.proofs.BestMakerLaws.{best_maker_law, best_tree_law, unbounded_law}
use Rattle.machine_search.proofs.BestNodeLaws.{chosen_below_law, search_space_law, best_nodes_law}
use Rattle.machine_search.proofs.best_law.Goals as goal

pub returns : goal.returns
returns c = record { maker = best_maker_law; tree = best_tree_law; unbounded = unbounded_law; chosen = chosen_below_law; space = search_space_law; nodes = best_nodes_law }
