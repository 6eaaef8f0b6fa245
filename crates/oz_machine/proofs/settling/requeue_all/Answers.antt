use Rattle.oz_machine.proofs.AskingLaws.{requeued_exact}
use Rattle.oz_machine.proofs.settling.requeue_all.Goals as goal

pub returns-in-Some-clause-asleep : goal.returns-in-Some-clause-asleep
returns-in-Some-clause-asleep c =
    c.learn.ensures c.requeue.new.queue (requeued_exact c.args.statements.now c.args.levels.now _ c.args.queue.now c.requeue.new.queue c.in_ok-requeue.ensures.ok)
