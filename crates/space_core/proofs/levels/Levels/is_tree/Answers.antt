use Rattle.std.proofs.Common.{subst}
use Rattle.view_laws.specs.Trees.{IsTree}
use Rattle.space_core.proofs.levels.Levels.is_tree.Goals as goal

pub returns : goal.returns
returns c = subst IsTree c.self.view_is c.self.invariant.tree
