use Rattle.std.proofs.Common.{sym}
use Rattle.std.proofs.lemmas.Result.{IfOk-weaker}
use Rattle.oz_threads.proofs.readiness.ready_where.Goals as goal

pub returns : goal.returns
returns c = IfOk-weaker c.ready_on_top.result _ _ (λ r h. h c.args.thread.now (sym c.top.ensures)) c.ready_on_top.ensures
