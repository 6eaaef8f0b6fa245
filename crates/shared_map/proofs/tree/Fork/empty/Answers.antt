use Rattle.std.proofs.Common.{◌+◌, ◌*◌, ◌^◌}
use Rattle.shared_map.specs.Lookup.{quad_at}
use Rattle.shared_map.proofs.Joins.{all_nothing}
use Rattle.shared_map.proofs.tree.Fork.empty.Goals as goal

pub returns-clause-value : goal.returns-clause-value
returns-clause-value g c = λ h.
    all_nothing (2 ^ (4 * h + 2)) (quad_at h c.empty.result) (quad_at h c.empty-2.result) (quad_at h c.empty-3.result) (quad_at h c.empty-4.result)
    (c.empty.ensures.value h) (c.empty-2.ensures.value h) (c.empty-3.ensures.value h) (c.empty-4.ensures.value h)
