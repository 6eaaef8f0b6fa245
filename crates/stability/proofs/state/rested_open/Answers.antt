use Rattle.std.proofs.Common.{sym, ap, ◌∙◌, Bool}
use Rattle.std.specs.Option.{option_map}
use Rattle.oz_semantics.specs.Sights.{count_of}
use Rattle.oz_semantics.specs.Spaces.{offer_in, stable_state}
use Rattle.stability.specs.Known.{known}
use Rattle.stability.proofs.StateLaws.{waits, tells, rests}
use Rattle.stability.proofs.OfferLaws.{offer_open}
use Rattle.stability.proofs.state.rested_open.Goals as goal

pub returns-then-branch : goal.returns-then-branch
returns-then-branch c =
    λ l e is_open_now rested. waits c.args.statements.now c.args.levels.now (known c.args.levels.now c.args.states.now) l rested (sym (c.in_ok-waits_outside.ensures l e) ∙ c.if-branch.true)

pub returns-then-not-is_silent : goal.returns-then-not-is_silent
returns-then-not-is_silent c =
    λ l e is_open_now rested. tells c.args.statements.now c.args.levels.now (known c.args.levels.now c.args.states.now) l rested (sym (c.is_silent.ensures l e) ∙ c.if-not-is_silent.true)

pub returns : goal.returns
returns c =
    λ l e is_open_now rested.
    let statements = c.args.statements.now in
    let layers = c.args.levels.now in
    let states = known layers c.args.states.now in
    rests statements layers states l rested (sym (c.in_ok-waits_outside.ensures l e) ∙ c.if-branch.false)
    (sym (c.is_silent.ensures l e) ∙ c.if-not-is_silent.false) c.stable_state.result
    (c.stable_state.ensures (offer_in statements layers states l)
    ((rw (c.space_at-space.ensures l e, c.store_at.ensures l e, c.threads_at-threads.ensures l e) at c.in_ok-size.ensures) ∙ ap (option_map count_of) (offer_open statements layers states l is_open_now))
    ∙ ap (λ (left : Bool). stable_state (offer_in statements layers states l) left) (c.is_left.ensures l e))
