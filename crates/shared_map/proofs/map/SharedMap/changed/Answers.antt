use Rattle.std.proofs.Common.{◌≤◌}
use Rattle.shared_map.specs.Trunks.{trunk_at}
use Rattle.shared_map.proofs.Changes.{whole_after, count_after}
use Rattle.shared_map.proofs.map.SharedMap.changed.Goals as goal

pub invariant_of-result : goal.invariant_of-result
invariant_of-result g c =
    let low : c.in-Ok.trunk.height ≤ 15 = rw c.in-Ok.ensures.height c.self.invariant.0 in
    (low, count_after (g.C.Change.changed c.args.change.now) (trunk_at c.self.inside.trunk) (trunk_at c.in-Ok.trunk) c.self.inside.count c.in-Ok.ensures.value c.self.invariant.1, c.in-Ok.ensures.depth c.self.invariant.2)

pub returns : goal.returns
returns g c =
    whole_after (g.C.Change.changed c.args.change.now) (trunk_at c.self.inside.trunk) (trunk_at c.in-Ok.trunk) c.args.self.now c.in-Ok.ensures.value c.self.view_is
