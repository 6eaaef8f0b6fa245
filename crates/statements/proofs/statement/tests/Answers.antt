use Rattle.std.proofs.Common.{◌∙◌, ap}
use Rattle.std.proofs.lemmas.Result.{IfOk-weaker}
use Rattle.oz_semantics.specs.Answers.{with_value}
use Rattle.oz_semantics.specs.Statements.{branch}
use Rattle.builtins.specs.Exact.{erased}
use Rattle.statements.proofs.statement.tests.Goals as goal

pub returns : goal.returns
returns c =
    IfOk-weaker c.test.result _ _
    (λ a h. h ∙ ap (λ x. erased (with_value c.args.store.now x (branch c.args.environment.now c.args.accepted.now c.args.otherwise.now))) c.look-condition.ensures)
    c.test.ensures
