use Rattle.std.proofs.Common.{◌≡◌, length}
use Rattle.recompute.specs.Ways.{rest_behind}
use Rattle.recompute.proofs.explorer.rest_behind.Given as goal

abbrev pub invariant-nodes : goal.invariant-nodes
invariant-nodes g l = let k = g.K.SearchKind.search in rest_behind k l.fuel l.nodes l.rest ≡ rest_behind k l.fuel l.way l.path

abbrev pub decreases-nodes : goal.decreases-nodes
decreases-nodes g l = length l.nodes
