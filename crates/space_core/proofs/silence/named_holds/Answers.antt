use Rattle.std.proofs.Common.{◌≡◌, ◌∙◌, ◌+◌, ◌||◌, suc, take, sym, ap, ap₂, arith}
use Rattle.std.specs.List.{list_any}
use Rattle.space_core.specs.Shown.{shown_all}
use Rattle.space_core.specs.Silence.{tell_holds}
use Rattle.space_core.proofs.ToldLaws.{any_more, any_passes}
use Rattle.space_core.proofs.silence.named_holds.Goals as goal

pub returns-then-holds_at : goal.returns-then-holds_at
returns-then-holds_at c = sym (any_passes (tell_holds (shown_all c.args.levels.now) c.args.space.now c.args.store.now c.args.variable.now) c.loop-place.place c.args.store.now (sym c.holds_at.ensures ∙ c.if-holds_at.true))

pub loop-place-preserved : goal.loop-place-preserved
loop-place-preserved c =
    let more : c.loop-place.place + 1 ≡ suc c.loop-place.place = omega arith in
    ap (λ n. list_any (tell_holds (shown_all c.args.levels.now) c.args.space.now c.args.store.now c.args.variable.now) (take n c.args.store.now)) more ∙ any_more (tell_holds (shown_all c.args.levels.now) c.args.space.now c.args.store.now c.args.variable.now) c.loop-place.place c.args.store.now
    ∙ ap₂ (λ a b. a || b) c.loop-place.invariant (sym c.holds_at.ensures ∙ c.if-holds_at.false)
