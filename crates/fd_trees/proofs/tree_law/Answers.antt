use Rattle.fd_trees.proofs.TreeLaws.{leaves_law}
use Rattle.fd_trees.proofs.AnswerLaws.{solved_law, answers_law}
use Rattle.fd_trees.proofs.tree_law.Goals as goal

pub returns : goal.returns
returns c = record { leaves = leaves_law; solved = solved_law; answers = answers_law }
