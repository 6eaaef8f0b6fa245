use Rattle.machine_search.proofs.SpaceLaws.{tree_law}
use Rattle.recompute.proofs.frozen.FrozenTree.laws.Goals as goal

pub returns : goal.returns
returns c = tree_law c.args.self.now.kernel c.args.self.now.space c.args.self.now.config
