use Rattle.std.proofs.Common.{◌∙◌, Option, ap}
use Rattle.std.proofs.lemmas.Result.{IfOk-weaker}
use Rattle.oz_semantics.specs.Answers.{given}
use Rattle.oz_semantics.specs.Statements.{value_called}
use Rattle.oz_semantics.specs.declared.value.Value.{Value}
use Rattle.builtins.specs.Exact.{erased}
use Rattle.statements.specs.Variables.{variables_of}
use Rattle.statements.proofs.calls.called.Goals as goal

pub returns : goal.returns
returns c =
    IfOk-weaker c.value_called.result _ _
    (λ a h statements. h statements
    ∙ ap (λ (o : Option Value). erased (given c.args.procedure.now o (value_called (record { statements = statements; space = c.args.space.now; view = c.args.store.now }) (variables_of c.args.arguments.now)))) c.value-value.ensures)
    c.value_called.ensures
