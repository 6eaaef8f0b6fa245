use Rattle.std.proofs.Common.{◌≡◌, ◌≢◌, [], length}
use Rattle.recompute.specs.Origins.{met_by}
use Rattle.recompute.specs.Ways.{IsWay, met_on}
use Rattle.recompute.proofs.explorer.walk.Given as goal

-- what is at the path is what is at the rest of it
abbrev pub invariant-path : goal.invariant-path
invariant-path g l =
    let k = g.T.Kind.SearchKind.search in
    let m = g.T.Source.maker l.source in
    let o = g.T.Source.origin l.source in
    record {
      way : IsWay k m o l.way.items;
      begun : l.way.items ≢ [];
      met : met_on k m o l.fuel l.way.items l.rest ≡ met_by k m o l.fuel l.path;
    }

abbrev pub decreases-path : goal.decreases-path
decreases-path g l = length l.rest
