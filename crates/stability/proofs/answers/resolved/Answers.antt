use Rattle.std.proofs.Common.{sym, subst}
use Rattle.std.proofs.lemmas.Result.{IfOk-weaker}
use Rattle.oz_semantics.specs.Answers as answers
use Rattle.oz_semantics.specs.Operations.{by_state}
use Rattle.oz_semantics.specs.Spaces.{sight}
use Rattle.builtins.specs.Answers.{IsAnswer}
use Rattle.operations.specs.Outcomes.{IsOutcome}
use Rattle.stability.specs.Known.{known}
use Rattle.stability.proofs.answers.resolved.Goals as goal

pub returns-in-Operates : goal.returns-in-Operates
returns-in-Operates c =
    λ l e statements defined h.
    let layers = c.args.levels.now in
    let is = subst (IsAnswer defined) c.in-Operates.is h in
    IfOk-weaker c.operation_answer.result _ _
    (λ o k. subst (λ (a : answers.Answer). IsOutcome (by_state layers (sight statements layers l.space) (known layers c.args.states.now) a) o) (sym is) (k statements))
    (c.operation_answer.ensures l e)
