use Rattle.std.proofs.Common.{◌≡◌, None}
use Rattle.node_pool.specs.Workers.{IsOf, claim}
use Rattle.base_tests.proofs.workers.explore.Given as goal

abbrev pub invariant-nodes : goal.invariant-nodes
invariant-nodes g l =
    ((goal.iterator-nodes g).can_next l.iterator' × (goal.iterator-nodes g).is_finite l.iterator')
    × IsOf l.worker l.initial.pool × (claim l.worker ≡ None) × (l.worker.numbers ≡ l.initial.worker.numbers) × (l.worker.drawn ≡ l.initial.worker.drawn)
