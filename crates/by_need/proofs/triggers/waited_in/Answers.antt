use Rattle.std.proofs.Common.{ap, ◌∙◌, List, arith}
use Rattle.std.proofs.lemmas.List.{take_all}
use Rattle.std.specs.List.{list_any, flat_map}
use Rattle.oz_base.specs.declared.names.Ident.{Ident}
use Rattle.oz_semantics.specs.Store.{same}
use Rattle.oz_semantics.specs.Configurations.{view}
use Rattle.oz_semantics.specs.declared.configuration.Thread.{Thread}
use Rattle.stability.specs.Known.{known}
use Rattle.by_need.proofs.WaitLaws.{thread_waits, waits_more}
use Rattle.by_need.proofs.triggers.waited_in.Goals as goal

pub loop-thread-init : goal.loop-thread-init
loop-thread-init c = λ l e z. ap (λ (xs : List Ident). list_any (same (view c.args.levels.now l.space) z) xs) c.new-waited.ensures

pub loop-thread-preserved : goal.loop-thread-preserved
loop-thread-preserved c =
    λ l e. waits_more (view c.args.levels.now l.space) (thread_waits c.args.statements.now c.args.levels.now (known c.args.levels.now c.args.states.now) l) c.args.threads.now c.loop-thread.thread-index
    c.thread-item.result _ _ c.loop-thread-test.true c.thread-item.is (c.loop-thread.invariant l e) (c.in_ok-add_waits.ensures (view c.args.levels.now l.space) _ (c.in_ok-ready.ensures l e))

pub returns : goal.returns
returns c =
    λ l e z. c.loop-thread.invariant l e z ∙ ap (λ (ts : List Thread). list_any (same (view c.args.levels.now l.space) z) (flat_map (thread_waits c.args.statements.now c.args.levels.now (known c.args.levels.now c.args.states.now) l) ts)) (take_all c.loop-thread.thread-index c.args.threads.now (omega arith))
