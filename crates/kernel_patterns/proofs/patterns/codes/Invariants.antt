use Rattle.std.proofs.Common.{◌≡◌, ◌++◌, drop}
use Rattle.kernel_patterns.specs.Nodes.{codes_nodes}
use Rattle.kernel_patterns.proofs.patterns.codes.Given as goal

abbrev pub invariant-bytes : goal.invariant-bytes
invariant-bytes l = codes_nodes l.bytes ≡ l.nodes ++ codes_nodes (drop l.byte-index l.bytes)
