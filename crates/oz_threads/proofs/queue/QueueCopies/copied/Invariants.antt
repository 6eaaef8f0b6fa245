use Rattle.std.proofs.Common.{◌≡◌, map}
use Rattle.oz_threads.proofs.queue.QueueCopies.copied.Given as goal

abbrev pub invariant-loop-id : goal.invariant-loop-id
invariant-loop-id l = l.ids.items ≡ map (λ x. x.now) l.yielded
