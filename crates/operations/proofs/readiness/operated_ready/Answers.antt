use Rattle.std.proofs.Common.{sym, subst, ◌∙◌}
use Rattle.std.proofs.lemmas.Result.{IfOk-weaker}
use Rattle.oz_semantics.specs.Operations.{operated}
use Rattle.oz_semantics.specs.Readiness.{answer_ready}
use Rattle.oz_semantics.specs.declared.value.SpaceOperation.{SpaceOperation}
use Rattle.builtins.specs.Answers.{IsReady}
use Rattle.operations.specs.Outcomes.{seeing}
use Rattle.operations.proofs.OutcomeLaws.{merged_steps, ask_ready, clone_ready, merge_ready, commit_ready, inject_ready}
use Rattle.operations.proofs.readiness.operated_ready.Goals as goal

pub returns-then-is_merged : goal.returns-then-is_merged
returns-then-is_merged c =
    λ statements own inner.
    sym (merged_steps (seeing statements own c.args.store.now) inner c.args.operation c.args.space.now c.args.argument.now c.args.state.now (sym c.is_merged.ensures ∙ c.if-is_merged.true))

pub returns-in-Ask : goal.returns-in-Ask
returns-in-Ask c =
    IfOk-weaker c.once_decided.result _ _
    (λ r h statements own inner.
    subst (λ (op : SpaceOperation). IsReady c.args.store.now (answer_ready (operated (seeing statements own c.args.store.now) inner op c.args.space.now c.args.argument.now c.args.state.now)) r) (sym c.in-Ask.is)
    (subst (λ d. IsReady c.args.store.now d r) (sym (ask_ready inner c.args.space.now c.args.argument.now c.args.state.now)) (h c.args.store.now)))
    c.once_decided.ensures

pub returns-in-Clone : goal.returns-in-Clone
returns-in-Clone c =
    IfOk-weaker c.once_decided-in-Clone.result _ _
    (λ r h statements own inner.
    subst (λ (op : SpaceOperation). IsReady c.args.store.now (answer_ready (operated (seeing statements own c.args.store.now) inner op c.args.space.now c.args.argument.now c.args.state.now)) r) (sym c.in-Clone.is)
    (subst (λ d. IsReady c.args.store.now d r) (sym (clone_ready c.args.space.now c.args.argument.now c.args.state.now)) (h c.args.store.now)))
    c.once_decided-in-Clone.ensures

pub returns-in-Merge : goal.returns-in-Merge
returns-in-Merge c =
    IfOk-weaker c.once_decided-in-Merge.result _ _
    (λ r h statements own inner.
    subst (λ (op : SpaceOperation). IsReady c.args.store.now (answer_ready (operated (seeing statements own c.args.store.now) inner op c.args.space.now c.args.argument.now c.args.state.now)) r) (sym c.in-Merge.is)
    (subst (λ d. IsReady c.args.store.now d r) (sym (merge_ready c.args.space.now c.args.argument.now c.args.state.now)) (h c.args.store.now)))
    c.once_decided-in-Merge.ensures

pub returns-in-Commit : goal.returns-in-Commit
returns-in-Commit c =
    IfOk-weaker c.once_given.result _ _
    (λ r h statements own inner.
    subst (λ (op : SpaceOperation). IsReady c.args.store.now (answer_ready (operated (seeing statements own c.args.store.now) inner op c.args.space.now c.args.argument.now c.args.state.now)) r) (sym c.in-Commit.is)
    (subst (λ d. IsReady c.args.store.now d r) (sym (commit_ready c.args.store.now c.args.space.now c.args.argument.now c.args.state.now (sym c.is_merged.ensures ∙ c.if-is_merged.false))) h))
    c.once_given.ensures

pub returns-in-Inject : goal.returns-in-Inject
returns-in-Inject c =
    IfOk-weaker c.ready_one.result _ _
    (λ r h statements own inner.
    subst (λ (op : SpaceOperation). IsReady c.args.store.now (answer_ready (operated (seeing statements own c.args.store.now) inner op c.args.space.now c.args.argument.now c.args.state.now)) r) (sym c.in-Inject.is)
    (subst (λ d. IsReady c.args.store.now d r) (sym (inject_ready c.args.store.now c.args.space.now c.args.argument.now c.args.state.now (sym c.is_merged.ensures ∙ c.if-is_merged.false))) h))
    c.ready_one.ensures
