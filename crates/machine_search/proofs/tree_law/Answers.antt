use Rattle.machine_search.proofs.SpaceLaws.{tree_law}
use Rattle.machine_search.proofs.tree_law.Goals as goal

pub returns : goal.returns
returns c = tree_law
