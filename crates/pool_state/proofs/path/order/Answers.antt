use Rattle.std.proofs.Common.{◌⊎◌, inl, inr, ◌≤◌, length, ◌∙◌}
use Rattle.pool_state.proofs.PathOrder.{ended}
use Rattle.pool_state.proofs.path.order.Goals.{then-loop-at-test+else-at-other, else-loop-at-test}
use Rattle.pool_state.proofs.path.order.Goals as goal

pub returns : goal.returns
returns g c =
    let over : (length c.args.path.now ≤ c.loop-at.at) ⊎ (length c.args.other.now ≤ c.loop-at.at) = elim c.loop-at-test.branch [
      | then-loop-at-test+else-at-other w ↦ inr w.if-at-other.false
      | else-loop-at-test w ↦ inl w.loop-at-test.false
    ] in
    c.cmp.ensures ∙ ended g.K.SearchKind.search.cmp c.args.path.now c.args.other.now c.loop-at.at c.loop-at.invariant.short c.loop-at.invariant.shorter over c.loop-at.invariant.rest
