use Rattle.std.proofs.Common.{List, ℕ, ap₂}
use Rattle.std.proofs.lemmas.Result.{IfOk-weaker}
use Rattle.fd_form.specs.Costs.{HasNoCost}
use Rattle.oz_replies.specs.BestReplies.{NotFd}
use Rattle.oz_replies.specs.declared.cause.Cause.{Cause}
use Rattle.oz_top.proofs.CostLaws.{no_cost}
use Rattle.oz_top.proofs.answers.best_for.Goals as goal

pub returns-in-None : goal.returns-in-None
returns-in-None g c =
    let none : HasNoCost c.args.program = rw c.in-None.is at c.in_ok-script_cost.ensures in
    IfOk-weaker c.not_fd.result _ _ (λ plan e. (NotFd, no_cost c.args.program c.args.workers c.args.budget none, ap₂ (λ (x : Cause) (y : List ℕ). (x, y)) e.0 e.1))
    c.not_fd.ensures
