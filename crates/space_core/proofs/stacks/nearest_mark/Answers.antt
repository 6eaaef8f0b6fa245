use Rattle.std.proofs.Common.{◌≡◌, ◌-◌, arith, length, drop, ap, sym, subst, ◌∙◌}
use Rattle.std.proofs.lemmas.List.{length-reverse}
use Rattle.oz_semantics.specs.Exceptions.{unwound}
use Rattle.space_core.specs.Stacks.{HandlerOf}
use Rattle.space_core.proofs.StackLaws.{landed, top_passed}
use Rattle.space_core.proofs.stacks.nearest_mark.Goals as goal

pub marks-init : goal.marks-init
marks-init c = (
  omega (arith, c.saturating_sub-place.ensures),
  ap (λ s. unwound c.args.exception.now (drop 1 s)) (sym c.from_bottom-frames.ensures) ∙ ap (unwound c.args.exception.now) (top_passed c.from_bottom-frames.result.now c.saturating_sub-place.result c.saturating_sub-place.ensures),
)

pub returns-in-Some : goal.returns-in-Some
returns-in-Some c =
    let whole : length c.args.stack.now ≡ length c.from_bottom-frames.result.now = ap length (sym c.from_bottom-frames.ensures) ∙ length-reverse c.from_bottom-frames.result.now in (
      c.marks.invariant.1
          ∙ landed c.args.exception.now c.from_bottom-frames.result.now (c.marks.place - 1) c.index-frames-place.result (omega (arith, c.marks.invariant.0, c.marks-test.true)) c.index-frames-place.is c.in-Some.handler c.args.stack.now
          (length c.from_bottom-frames.result.now - (c.marks.place - 1)) c.marks.place (subst (HandlerOf c.args.exception.now c.index-frames-place.result) c.in-Some.is c.in_ok-handler.ensures) c.from_bottom-frames.ensures
          (omega (arith, c.marks.invariant.0)) (omega (arith, c.marks-test.true)),
      omega (arith, whole),
    )
