use Rattle.std.proofs.Common.{sym, ◌∙◌, arith}
use Rattle.std.proofs.lemmas.List.{append-nil}
use Rattle.stability.specs.Known.{known}
use Rattle.stability.proofs.ReadyLaws.{thread_steps}
use Rattle.stability.proofs.AlikeLaws.{able_joins, able_stays, able_all}
use Rattle.stability.proofs.whole.add_able.Goals.{then-branch+in_ok-copied+in_ok-push, else-branch}
use Rattle.stability.proofs.whole.add_able.Goals as goal

pub loop-thread-init : goal.loop-thread-init
loop-thread-init c = λ l e. sym (append-nil c.args.ids.now.items)

pub loop-thread-preserved : goal.loop-thread-preserved
loop-thread-preserved c = elim c.if-branch.branch [
  | then-branch+in_ok-copied+in_ok-push w ↦
      λ l e.
      rw w.ids-is (able_joins (thread_steps c.args.statements.now c.args.levels.now (known c.args.levels.now c.args.states.now) l) l.space c.args.threads.now c.loop-thread.thread-index c.thread-item.result
      c.loop-thread-test.true c.thread-item.is c.args.ids.now.items c.loop-thread.ids.items _ w.in_ok-copied.field-0 (c.loop-thread.invariant l e) w.in_ok-push.ensures.items
      (w.in_ok-copied.ensures ∙ c.space_at-space.ensures l e) (sym w.if-branch.true ∙ c.in_ok-can_step.ensures l e))
  | else-branch w ↦
      λ l e.
      rw w.ids-is (able_stays (thread_steps c.args.statements.now c.args.levels.now (known c.args.levels.now c.args.states.now) l) l.space c.args.threads.now c.loop-thread.thread-index c.thread-item.result
      c.loop-thread-test.true c.thread-item.is c.args.ids.now.items c.loop-thread.ids.items (c.loop-thread.invariant l e) (sym w.if-branch.false ∙ c.in_ok-can_step.ensures l e))
]

pub returns : goal.returns
returns c =
    λ l e. able_all (thread_steps c.args.statements.now c.args.levels.now (known c.args.levels.now c.args.states.now) l) l.space c.args.threads.now c.loop-thread.thread-index c.args.ids.now.items
    c.loop-thread.ids.items (omega arith) (c.loop-thread.invariant l e)
