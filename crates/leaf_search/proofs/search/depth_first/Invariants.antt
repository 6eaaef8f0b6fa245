use Rattle.std.proofs.Common.{◌≡◌}
use Rattle.machine_search.specs.Visits.{found_below, found_from}
use Rattle.leaf_search.specs.Searching.{waiting, AreOf}
use Rattle.leaf_search.proofs.search.depth_first.Given as goal

-- what was found so far, and then what the nodes that wait find
abbrev pub invariant-nodes : goal.invariant-nodes
invariant-nodes g l = record {
  kernel : AreOf l.fn.root.kernel l.opened;
  found : found_from l.fn.root.kernel l.space l.leaves (waiting l.space l.opened) l.left ≡ found_below l.fn.root.kernel l.space l.fn.root.config l.fuel;
}

abbrev pub decreases-nodes : goal.decreases-nodes
decreases-nodes g l = l.left
