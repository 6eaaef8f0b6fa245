use Rattle.machine_search.proofs.BestMakerLaws.{best_tree_law}
use Rattle.recompute.proofs.bounded.FrozenBestTree.laws.Goals as goal

pub returns : goal.returns
returns c = best_tree_law c.args.self.now.start.kernel c.args.self.now.start.space c.args.self.now.feature c.args.self.now.start.config
