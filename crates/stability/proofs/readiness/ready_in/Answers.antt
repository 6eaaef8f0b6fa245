use Rattle.std.proofs.Common.{sym}
use Rattle.std.proofs.lemmas.Result.{IfOk-weaker}
use Rattle.stability.proofs.readiness.ready_in.Goals as goal

pub returns : goal.returns
returns c = λ l e. IfOk-weaker c.ready_by.result _ _ (λ r h. h c.args.thread.now (sym c.top.ensures)) (c.ready_by.ensures l e)
