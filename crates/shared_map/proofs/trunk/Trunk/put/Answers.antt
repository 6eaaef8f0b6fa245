use Rattle.std.proofs.Math.Nat.{mod-eq_of_lt}
use Rattle.shared_map.proofs.Moves.{moved}
use Rattle.shared_map.proofs.trunk.Trunk.put.Goals as goal

pub returns-clause-wrote : goal.returns-clause-wrote
returns-clause-wrote g c = moved _ _ _ _ _ _ c.in-Ok.ensures.same (rw (mod-eq_of_lt c.in-Ok.ensures.ok) at c.in_ok-swap.ensures.swapped)
