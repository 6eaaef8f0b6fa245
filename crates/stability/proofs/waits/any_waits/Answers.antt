use Rattle.std.proofs.Common.{sym, ◌∙◌, arith}
use Rattle.stability.specs.Known.{known}
use Rattle.stability.proofs.Among.{read_found, read_left, any_end}
use Rattle.stability.proofs.ReadyLaws.{thread_waits}
use Rattle.stability.proofs.waits.any_waits.Goals as goal

pub returns-then-branch : goal.returns-then-branch
returns-then-branch c =
    λ l e. read_found (thread_waits c.args.statements.now c.args.levels.now (known c.args.levels.now c.args.states.now) c.args.space.now l) c.args.threads.now c.loop-thread.thread-index c.thread-item.result _
    (omega arith) c.thread-item.is (c.loop-thread.invariant l e) (sym c.if-branch.true ∙ c.in_ok-thread_waits.ensures l e)

pub loop-thread-preserved : goal.loop-thread-preserved
loop-thread-preserved c =
    λ l e. read_left (thread_waits c.args.statements.now c.args.levels.now (known c.args.levels.now c.args.states.now) c.args.space.now l) c.args.threads.now c.loop-thread.thread-index c.thread-item.result _
    (omega arith) c.thread-item.is (c.loop-thread.invariant l e) (sym c.if-branch.false ∙ c.in_ok-thread_waits.ensures l e)

pub returns : goal.returns
returns c =
    λ l e. any_end (thread_waits c.args.statements.now c.args.levels.now (known c.args.levels.now c.args.states.now) c.args.space.now l) c.args.threads.now c.loop-thread.thread-index _ (omega arith) (c.loop-thread.invariant l e)
