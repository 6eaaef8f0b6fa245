use Rattle.std.proofs.Common.{◌≡◌, ◌≤◌, ◌-◌, length, drop}
use Rattle.oz_search.specs.Paths.{path_cmp}
use Rattle.pool_state.proofs.path.order.Given as goal

-- what is left is in the order of the whole
abbrev pub invariant-loop-at : goal.invariant-loop-at
invariant-loop-at g l =
    let k = g.K.SearchKind.search in
    record {
      short : l.at ≤ length l.path;
      shorter : l.at ≤ length l.other;
      rest : path_cmp k (drop l.at l.path) (drop l.at l.other) ≡ path_cmp k l.path l.other;
    }

abbrev pub decreases-loop-at : goal.decreases-loop-at
decreases-loop-at g l = length l.path - l.at
