use Rattle.std.proofs.Common.{◌≡◌, ◌∙◌, not, ◌&&◌, true, false, sym, ap, arith}
use Rattle.oz_semantics.specs.Store.{is_determined}
use Rattle.term_store.specs.Classes.{root_in}
use Rattle.tree_equal.specs.Grown.{awaits}
use Rattle.tree_equal.proofs.Lists.{passes, fails}
use Rattle.tree_equal.proofs.affected.waiting.Goals as goal
use Rattle.tree_equal.proofs.affected.waiting.Goals.{then-waits+in_ok-copied+in_ok-push, else-waits}

pub loop-variable-preserved : goal.loop-variable-preserved
loop-variable-preserved c =
    let store = c.args.store.now in
    let after = c.args.after.now in
    let touched = c.args.touched.now in
    let x = c.variable-item.result in
    let tested : c.waits.result ≡ awaits store after touched x = c.waits.ensures ∙ ap (λ b. not (is_determined store x) && b) (c.in_ok-grown.ensures (root_in after x)) in
    elim c.if-waits.branch [
      | then-waits+in_ok-copied+in_ok-push w ↦
          rw w.waiting-is (passes (awaits store after touched) touched c.loop-variable.variable-index x (omega arith) c.variable-item.is
          _ _ _ c.loop-variable.invariant w.in_ok-push.ensures.items w.in_ok-copied.ensures (sym tested ∙ w.if-waits.true))
      | else-waits w ↦
          rw w.waiting-is (fails (awaits store after touched) touched c.loop-variable.variable-index x (omega arith) c.variable-item.is
          _ c.loop-variable.invariant (sym tested ∙ w.if-waits.false))
    ]
