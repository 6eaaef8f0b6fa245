use Rattle.std.proofs.Common.{◌+◌, ◌*◌, ◌^◌}
use Rattle.shared_map.specs.Lookup.{quad_at}
use Rattle.shared_map.proofs.Joins.{joined}
use Rattle.shared_map.proofs.tree.Fork.share_to.Goals as goal

pub returns-clause-value : goal.returns-clause-value
returns-clause-value g c = λ h.
    joined (2 ^ (4 * h + 2)) (quad_at h c.share_to.new.to) (quad_at h c.share_to-2.new.to) (quad_at h c.share_to-3.new.to) (quad_at h c.share_to-4.new.to)
    (quad_at h c.args.self.now.a) (quad_at h c.args.self.now.b) (quad_at h c.args.self.now.c) (quad_at h c.args.self.now.d)
    (c.in_ok-share_to.ensures.value h) (c.in_ok-share_to-2.ensures.value h) (c.in_ok-share_to-3.ensures.value h) (c.in_ok-share_to-4.ensures.value h)
