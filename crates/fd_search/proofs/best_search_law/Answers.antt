use Rattle.fd_search.proofs.BestTreeLaws.{tree_below_law, search_below_law}
use Rattle.fd_search.proofs.best_search_law.Goals as goal

pub returns : goal.returns
returns c = record { tree = tree_below_law; search = search_below_law }
