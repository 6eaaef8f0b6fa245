use Rattle.std.proofs.Common.{sym, ap, ◌∙◌, option_copied}
use Rattle.std.proofs.lemmas.Result.{IfOk-weaker}
use Rattle.oz_semantics.specs.Configurations.{view}
use Rattle.oz_semantics.specs.Spaces.{sight}
use Rattle.view_laws.specs.Spaceless.{plain_ready}
use Rattle.stability.specs.Known.{known}
use Rattle.stability.proofs.AnsweredLaws.{unwaiting_ready, none_ready}
use Rattle.stability.proofs.readiness.ready_by.Goals as goal

pub returns-then-not-waits_for_state : goal.returns-then-not-waits_for_state
returns-then-not-waits_for_state c =
    λ l e t k.
    let layers = c.args.levels.now in
    let plain = (rw (c.space_at-space.ensures l e, c.store_at-store.ensures l e) at c.in_ok-ready.ensures) t k in
    unwaiting_ready c.args.statements.now layers (known layers c.args.states.now) l.space t c.in_ok-ready.ready
    (sym (c.waits_for_state.ensures (view layers l.space) (plain_ready (sight c.args.statements.now layers l.space) t) plain) ∙ c.if-not-waits_for_state.true) plain

pub returns-in-None : goal.returns-in-None
returns-in-None c =
    λ l e t k.
    let layers = c.args.levels.now in
    none_ready c.args.statements.now layers (known layers c.args.states.now) l.space t c.in_ok-ready.ready (k ∙ ap option_copied c.in-None.is)
    ((rw (c.space_at-space.ensures l e, c.store_at-store.ensures l e) at c.in_ok-ready.ensures) t k)

pub returns-in-Some : goal.returns-in-Some
returns-in-Some c =
    λ l e.
    IfOk-weaker c.resolved.result _ _
    (λ r h t k. h t (k ∙ ap option_copied c.in-Some.is) ((rw (c.space_at-space.ensures l e, c.store_at-store.ensures l e) at c.in_ok-ready.ensures) t k))
    (c.resolved.ensures l e)
