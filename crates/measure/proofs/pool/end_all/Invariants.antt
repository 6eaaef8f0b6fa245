use Rattle.std.proofs.Common.{◌≡◌, None}
use Rattle.oz_search.specs.Histories.{claim_of}
use Rattle.measure.proofs.pool.end_all.Given as goal

-- worker 0 has no claim out
abbrev pub invariant-loop : goal.invariant-loop
invariant-loop l = claim_of l.pool.history 0 ≡ None
