use Rattle.std.proofs.Common.{◌≡◌, length}
use Rattle.matching.specs.Lefts.{subjects_of}
use Rattle.matching.proofs.left.Left.refill.Given as goal

abbrev pub invariant-behind : goal.invariant-behind
invariant-behind l = record {
  nodes : l.self.nodes ≡ l.initial.self.nodes;
  subjects : subjects_of l.self ≡ subjects_of l.initial.self;
}

abbrev pub decreases-behind : goal.decreases-behind
decreases-behind l = length l.self.behind
