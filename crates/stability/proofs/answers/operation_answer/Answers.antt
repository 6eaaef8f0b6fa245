use Rattle.std.proofs.Common.{ap, option_copied, subst}
use Rattle.std.proofs.lemmas.Result.{IfOk-weaker}
use Rattle.oz_semantics.specs.Answers as answers
use Rattle.operations.specs.Outcomes.{IsOutcome}
use Rattle.stability.proofs.AnsweredLaws.{operation_known, state_read, seen_there}
use Rattle.stability.proofs.answers.operation_answer.Goals as goal

pub returns : goal.returns
returns c =
    λ l e.
    let layers = c.args.levels.now in
    let sts = c.args.states.now in
    let child = c.args.space.now in
    let state = state_read layers sts child c.in-Some.child _ c.in-Some-known_state.state.now c.in-Some.ensures c.known_state.ensures (ap option_copied c.in-Some-known_state.is) in
    let inner = seen_there layers sts child c.in-Some.child c.store_at-inner.result.now c.in-Some.ensures c.store_at-inner.ensures in
    IfOk-weaker c.operated.result _ _
    (λ o h statements.
    subst (λ (a : answers.Answer). IsOutcome a o)
    (operation_known statements layers sts l.space child c.args.operation c.args.argument.now c.in-Some-known_state.state.now c.store_at-store.result.now c.store_at-inner.result.now state (c.store_at-store.ensures l e) inner)
    (h statements l.space))
    c.operated.ensures
