use Rattle.fd_trees.proofs.ScriptLaws.{script_law, search_law}
use Rattle.fd_trees.proofs.script_law.Goals as goal

pub returns : goal.returns
returns c = record { leaves = script_law; found = search_law }
