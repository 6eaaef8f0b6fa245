use Rattle.stability.proofs.waits.thread_waits.Goals as goal

pub returns : goal.returns
returns c = λ l e. c.waits_held.ensures l e _ (c.in_ok-ready.ensures l e)
