use Rattle.std.proofs.Common.{◌≡◌, ◌∙◌, ◌+◌, ◌&&◌, suc, take, sym, ap, ap₂, arith}
use Rattle.std.specs.List.{list_all}
use Rattle.space_core.specs.Shown.{shown_all}
use Rattle.space_core.specs.Silence.{tell_alike}
use Rattle.space_core.proofs.ToldLaws.{all_more, all_fails}
use Rattle.space_core.proofs.silence.named_alike.Goals as goal

pub returns-then-not-alike_at : goal.returns-then-not-alike_at
returns-then-not-alike_at c = sym (all_fails (tell_alike (shown_all c.args.levels.now) c.args.space.now c.args.one.now c.args.other.now) c.loop-place.place c.args.one.now (sym c.alike_at.ensures ∙ c.if-not-alike_at.true))

pub loop-place-preserved : goal.loop-place-preserved
loop-place-preserved c =
    let more : c.loop-place.place + 1 ≡ suc c.loop-place.place = omega arith in
    ap (λ n. list_all (tell_alike (shown_all c.args.levels.now) c.args.space.now c.args.one.now c.args.other.now) (take n c.args.one.now)) more ∙ all_more (tell_alike (shown_all c.args.levels.now) c.args.space.now c.args.one.now c.args.other.now) c.loop-place.place c.args.one.now
    ∙ ap₂ (λ a b. a && b) c.loop-place.invariant (sym c.alike_at.ensures ∙ c.if-not-alike_at.false)
