use Rattle.std.proofs.Common.{◌≡◌}
use Rattle.kernel_patterns.specs.Nodes.{cells_nodes}
use Rattle.kernel_patterns.proofs.patterns.cells.Given as goal

abbrev pub invariant-heads : goal.invariant-heads
invariant-heads l = l.nodes ≡ cells_nodes l.yielded
