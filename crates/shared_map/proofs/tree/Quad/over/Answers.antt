use Rattle.std.proofs.Common.{◌≡◌, ◌+◌, ◌-◌, suc, arith}
use Rattle.shared_map.proofs.Reach.{over_quad}
use Rattle.shared_map.proofs.tree.Quad.over.Goals as goal

pub returns-clause-value : goal.returns-clause-value
returns-clause-value g c = λ h.
    let e : h + 1 ≡ suc h = omega arith in
    let d : suc h - 1 ≡ h = omega arith in
    rw e (rw d (over_quad h c.args.first))
