use Rattle.std.proofs.Common.{true, false, sym, subst}
use Rattle.std.proofs.lemmas.Result.{IfOk-weaker}
use Rattle.oz_semantics.specs.Builtins.{of_operation}
use Rattle.oz_semantics.specs.Readiness.{answer_ready}
use Rattle.builtins.specs.Answers.{IsReady}
use Rattle.builtins.proofs.DomainLaws.{bound_waits, bound_each_waits}
use Rattle.builtins.proofs.ReadyLaws.{operator_waits}
use Rattle.builtins.proofs.readiness.ready_operation.Goals as goal

pub returns-in-Same : goal.returns-in-Same
returns-in-Same c =
    IfOk-weaker c.ready_equal.result _ _
    (λ r h z. subst (λ op. IsReady c.args.store.now (answer_ready (of_operation c.args.store.now op c.args.left.now c.args.right.now z)) r) (sym c.in-Same.is) (h z true))
    c.ready_equal.ensures

pub returns-in-Differs : goal.returns-in-Differs
returns-in-Differs c =
    IfOk-weaker c.ready_equal-in-Differs.result _ _
    (λ r h z. subst (λ op. IsReady c.args.store.now (answer_ready (of_operation c.args.store.now op c.args.left.now c.args.right.now z)) r) (sym c.in-Differs.is) (h z false))
    c.ready_equal-in-Differs.ensures

pub returns-in-Bound : goal.returns-in-Bound
returns-in-Bound c =
    IfOk-weaker c.ready_bound.result _ _
    (λ r h z. subst (λ op. IsReady c.args.store.now (answer_ready (of_operation c.args.store.now op c.args.left.now c.args.right.now z)) r) (sym c.in-Bound.is)
    (subst (λ ready. IsReady c.args.store.now ready r) (sym (bound_waits c.args.store.now c.args.left.now c.args.right.now z)) h))
    c.ready_bound.ensures

pub returns-in-BoundEach : goal.returns-in-BoundEach
returns-in-BoundEach c =
    IfOk-weaker c.ready_bound_each.result _ _
    (λ r h z. subst (λ op. IsReady c.args.store.now (answer_ready (of_operation c.args.store.now op c.args.left.now c.args.right.now z)) r) (sym c.in-BoundEach.is)
    (subst (λ ready. IsReady c.args.store.now ready r) (sym (bound_each_waits c.args.store.now c.args.left.now c.args.right.now z)) h))
    c.ready_bound_each.ensures

pub returns-in_default : goal.returns-in_default
returns-in_default c =
    IfOk-weaker c.ready_two.result _ _
    (λ r h z. subst (λ ready. IsReady c.args.store.now ready r)
    (sym (operator_waits c.args.store.now c.args.operation c.args.left.now c.args.right.now z c.in_default.not-Same c.in_default.not-Differs c.in_default.not-Bound c.in_default.not-BoundEach)) h)
    c.ready_two.ensures
