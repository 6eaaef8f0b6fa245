use Rattle.std.proofs.Common.{sym}
use Rattle.watching.specs.Lists.{AreRooted}
use Rattle.watching.proofs.keys.Keys.adopt_all.Goals as goal

pub loop-tell-preserved : goal.loop-tell-preserved
loop-tell-preserved c =
    λ ps part r. c.in_ok-adopt_told.ensures ps c.args.tells.now part (c.loop-tell.tell-index, c.loop-tell-test.true, sym c.tell-item.is) (c.loop-tell.invariant ps part r)

pub returns : goal.returns
returns c =
    λ ps k a f. (let r : AreRooted c.args.store.now ps c.classes-classes.result.now c.args.tells.now c.loop-tell.self =
    c.loop-tell.invariant ps c.classes-classes.ensures (record { keys = k; apart = a; rooted = λ x is m y l h s. absurd (f x is m y l h s) }) in
    (r.keys, r.apart))
