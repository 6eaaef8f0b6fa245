use Rattle.view_laws.proofs.TreeLaws.{trees_lead, change_tree, end_tree, failure_tree, raise_tree, tree_created}
use Rattle.view_laws.proofs.tree_law.Goals as goal

pub returns : goal.returns
returns c = record { lead = trees_lead; change = change_tree; end = end_tree; failure = failure_tree; raised = raise_tree; creation = tree_created }
