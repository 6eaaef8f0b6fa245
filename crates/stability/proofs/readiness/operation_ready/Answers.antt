use Rattle.std.proofs.Common.{ap, option_copied, subst, refl}
use Rattle.std.proofs.lemmas.Result.{IfOk-weaker}
use Rattle.oz_semantics.specs.Configurations.{view}
use Rattle.oz_semantics.specs.Store.{View}
use Rattle.oz_semantics.specs.Answers as answers
use Rattle.oz_semantics.specs.Operations.{by_state}
use Rattle.oz_semantics.specs.Readiness.{answer_ready}
use Rattle.oz_semantics.specs.Spaces.{sight}
use Rattle.builtins.specs.Answers.{IsReady}
use Rattle.stability.specs.Known.{known}
use Rattle.stability.proofs.AnsweredLaws.{operation_known, state_read}
use Rattle.stability.proofs.readiness.operation_ready.Goals as goal

pub returns : goal.returns
returns c =
    λ l e.
    let layers = c.args.levels.now in
    let sts = c.args.states.now in
    let child = c.args.space.now in
    let state = state_read layers sts child c.in-Some.child _ c.in-Some-known_state.state.now c.in-Some.ensures c.known_state.ensures (ap option_copied c.in-Some-known_state.is) in
    IfOk-weaker c.operated_ready.result _ _
    (λ r h statements.
    subst (λ (v : View). IsReady v (answer_ready (by_state layers (sight statements layers l.space) (known layers sts) (answers.Operates c.args.operation child c.args.argument.now))) r) (c.store_at-store.ensures l e)
    (subst (λ (a : answers.Answer). IsReady c.store_at-store.result.now (answer_ready a) r)
    (operation_known statements layers sts l.space child c.args.operation c.args.argument.now c.in-Some-known_state.state.now c.store_at-store.result.now (view layers child) state (c.store_at-store.ensures l e) refl)
    (h statements l.space (view layers child))))
    c.operated_ready.ensures
