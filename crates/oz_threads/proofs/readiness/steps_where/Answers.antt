use Rattle.oz_threads.proofs.readiness.steps_where.Goals as goal

pub returns : goal.returns
returns c = c.is_step.ensures c.args.store.now _ c.in_ok-ready.ensures
