use Rattle.best_answers.proofs.StartLaws.{script_tree}
use Rattle.best_answers.proofs.start.start.Goals as goal

pub returns-clause-tree : goal.returns-clause-tree
returns-clause-tree c =
    script_tree c.args.machine.kernel c.args.machine.config c.script_variable.result c.root.new.self c.in_ok-space.space c.args.feature c.args.left c.new-frozen.result c.new.result c.new.ensures c.new-frozen.ensures
    c.script_variable.ensures c.in_ok-space.ensures.kernel c.in_ok-space.ensures.name c.in_ok-space.ensures.root
