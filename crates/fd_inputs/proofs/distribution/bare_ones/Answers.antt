use Rattle.std.proofs.Common.{◌∙◌, ◌++◌, [], ◌∷◌, ap, sym}
use Rattle.oz_semantics.specs.Distributors.{is_bare}
use Rattle.fd_inputs.proofs.LoopLaws.{filtered_more, filtered_same}
use Rattle.fd_inputs.proofs.distribution.bare_ones.Goals.{then-is_bare+in_ok-copied+in_ok-push, else-is_bare}
use Rattle.fd_inputs.proofs.distribution.bare_ones.Goals as goal

pub loop-x-preserved : goal.loop-x-preserved
loop-x-preserved c = elim c.if-is_bare.branch [
  | then-is_bare+in_ok-copied+in_ok-push w ↦
      rw w.ones-is (filtered_more (is_bare c.args.store.now) c.args.xs.now c.loop-x.x-index c.x-item.result c.loop-x.ones.items _ c.loop-x-test.true c.x-item.is c.loop-x.invariant
      (sym c.is_bare.ensures ∙ w.if-is_bare.true) (w.in_ok-push.ensures.items ∙ ap (λ z. c.loop-x.ones.items ++ z ∷ []) w.in_ok-copied.ensures))
  | else-is_bare w ↦
      rw w.ones-is (filtered_same (is_bare c.args.store.now) c.args.xs.now c.loop-x.x-index c.x-item.result c.loop-x.ones.items c.loop-x-test.true c.x-item.is c.loop-x.invariant
      (sym c.is_bare.ensures ∙ w.if-is_bare.false))
]
