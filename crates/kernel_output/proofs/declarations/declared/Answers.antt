use Rattle.kernel_output.proofs.Naming.{declared_loop}
use Rattle.kernel_output.proofs.declarations.declared.Goals as goal

pub phrases-preserved : goal.phrases-preserved
phrases-preserved c = declared_loop _ _ _ _ _ c.args.phrases.now c.phrases.phrase-index c.phrase-item.result c.phrases-test.true c.phrase-item.is (rw c.declared_by.ensures at c.in_ok-declare.ensures.names) (rw c.declared_by.ensures at c.in_ok-declare.ensures.seen) c.phrases.invariant
