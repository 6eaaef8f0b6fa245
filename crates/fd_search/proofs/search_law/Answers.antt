use Rattle.fd_search.proofs.TreeLaws as trees
use Rattle.fd_search.proofs.search_law.Goals as goal

pub returns : goal.returns
returns c = record { tree = trees.tree_law; search = trees.search_law }
