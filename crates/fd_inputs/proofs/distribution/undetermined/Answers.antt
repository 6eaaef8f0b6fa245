use Rattle.std.proofs.Common.{◌∙◌, ◌++◌, [], ◌∷◌, not, ap, sym}
use Rattle.oz_semantics.specs.Store.{is_determined}
use Rattle.fd_inputs.proofs.LoopLaws.{filtered_more, filtered_same}
use Rattle.fd_inputs.proofs.distribution.undetermined.Goals.{then-not-is_determined+in_ok-copied+in_ok-push, else-not-is_determined}
use Rattle.fd_inputs.proofs.distribution.undetermined.Goals as goal

pub loop-x-preserved : goal.loop-x-preserved
loop-x-preserved c = elim c.if-not-is_determined.branch [
  | then-not-is_determined+in_ok-copied+in_ok-push w ↦
      rw w.ones-is (filtered_more (λ x. not (is_determined c.args.store.now x)) c.args.xs.now c.loop-x.x-index c.x-item.result c.loop-x.ones.items _ c.loop-x-test.true c.x-item.is c.loop-x.invariant
      (ap not (sym c.is_determined.ensures ∙ w.if-not-is_determined.true)) (w.in_ok-push.ensures.items ∙ ap (λ z. c.loop-x.ones.items ++ z ∷ []) w.in_ok-copied.ensures))
  | else-not-is_determined w ↦
      rw w.ones-is (filtered_same (λ x. not (is_determined c.args.store.now x)) c.args.xs.now c.loop-x.x-index c.x-item.result c.loop-x.ones.items c.loop-x-test.true c.x-item.is c.loop-x.invariant
      (ap not (sym c.is_determined.ensures ∙ w.if-not-is_determined.false)))
]
