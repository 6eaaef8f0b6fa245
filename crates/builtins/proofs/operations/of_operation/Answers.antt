use Rattle.std.proofs.Common.{◌∙◌, ap}
use Rattle.std.proofs.lemmas.Result.{IfOk-weaker}
use Rattle.builtins.specs.Exact.{erased}
use Rattle.builtins.proofs.AnswerLaws.{on_values_alone}
use Rattle.builtins.proofs.operations.of_operation.Goals as goal

pub returns-in_default : goal.returns-in_default
returns-in_default c =
    IfOk-weaker c.on_two.result _ _
    (λ a h. h
    ∙ ap erased
    (on_values_alone c.args.store.now c.args.operation c.args.left.now c.args.right.now c.args.output.now c.in_default.not-Same c.in_default.not-Differs c.in_default.not-Bound c.in_default.not-BoundEach))
    c.on_two.ensures
