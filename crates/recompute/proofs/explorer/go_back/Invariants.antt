use Rattle.std.proofs.Common.{length}
use Rattle.recompute.specs.Ways.{IsWay}
use Rattle.recompute.proofs.explorer.go_back.Given as goal

-- what is left of a way is one
abbrev pub invariant-nodes : goal.invariant-nodes
invariant-nodes g l = IsWay g.T.Kind.SearchKind.search (g.T.Source.maker l.source) (g.T.Source.origin l.source) l.way.items

abbrev pub decreases-nodes : goal.decreases-nodes
decreases-nodes g l = length l.way.items
