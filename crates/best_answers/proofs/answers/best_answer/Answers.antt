use Rattle.std.proofs.Common.{◌-◌}
use Rattle.std.proofs.lemmas.Result.{IfOk-weaker}
use Rattle.best_answers.specs.Told.{answer_after}
use Rattle.best_answers.proofs.ToldLaws.{told_of, refused}
use Rattle.best_answers.proofs.answers.best_answer.Goals as goal

pub returns : goal.returns
returns g c top left run =
    let m = c.in_ok-machine.machine in
    let n = c.in_ok-machine.left in
    let f = c.in_ok-found.found in
    IfOk-weaker c.plan_found.result _ _ (λ plan e. (
      answer_after (c.args.budget - n) f,
      told_of c.args.kernel m.kernel c.args.feature top m.config c.args.budget left n c.args.workers f c.in_ok-machine.ensures.kernel c.in_ok-machine.ensures.run run c.in_ok-found.ensures,
      e,
    ))
    c.plan_found.ensures

pub returns-in_err-found : goal.returns-in_err-found
returns-in_err-found g c top left run = refused c.from_residual-in_err-found.result _ c.from_residual-in_err-found.ensures.0
