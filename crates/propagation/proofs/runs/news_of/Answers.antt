use Rattle.std.proofs.Common.{sym, arith}
use Rattle.propagation.proofs.RunLaws.{told_fails, told_all}
use Rattle.propagation.proofs.runs.news_of.Goals as goal

pub returns-then-not-branch : goal.returns-then-not-branch
returns-then-not-branch c =
    let differs = rw c.if-not-branch.true at c.in_ok-is_told.ensures in
    sym (told_fails c.args.store.now c.loop-tell.copy c.args.tells.now c.loop-tell.told.items c.loop-tell.tell-index c.tell-item.result c.loop-tell.invariant c.loop-tell-test.true c.tell-item.is
    (sym c.if-not-is_news.ensures) differs)

pub returns : goal.returns
returns c =
    sym (told_all c.args.store.now c.loop-tell.copy c.args.tells.now c.loop-tell.told.items c.loop-tell.tell-index c.loop-tell.invariant (omega (arith, c.loop-tell-test.false)) c.consistent.ensures)
