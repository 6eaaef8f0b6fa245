use Rattle.std.proofs.Common.{sym, ◌∙◌, arith}
use Rattle.std.proofs.lemmas.Option.{slice_get_within}
use Rattle.stability.proofs.PartLaws.{stands_together, one_more_below, is_above_so}
use Rattle.stability.proofs.parts.end_of.Goals as goal

pub below-preserved : goal.below-preserved
below-preserved c =
    λ l e. one_more_below c.args.levels.now c.args.place c.below.behind l (λ m q. sym (is_above_so c.space_at-space.result.now l.space c.space_at.result.now m.space (c.space_at-space.ensures l e) (c.space_at.ensures m q)) ∙ sym c.is_above.ensures ∙ c.if-not-is_above.false)
    (c.below.invariant l e)

pub returns-then-not-is_above : goal.returns-then-not-is_above
returns-then-not-is_above c = record {
  behind = omega (arith, c.next_place-behind.ensures);
  within = omega arith;
  all =
      λ l e. stands_together c.args.levels.now c.args.place c.below.behind l c.is_tree.ensures.ordered e (omega (arith, c.next_place-behind.ensures)) (c.below.invariant l e)
      (λ r q. sym (is_above_so c.space_at-space.result.now l.space c.space_at.result.now r.space (c.space_at-space.ensures l e) (c.space_at.ensures r q)) ∙ sym c.is_above.ensures ∙ c.if-not-is_above.true);
}

pub returns : goal.returns
returns c = record {
  behind = omega arith;
  within = omega arith;
  all =
      λ l e. stands_together c.args.levels.now c.args.place c.len.result l c.is_tree.ensures.ordered e (omega arith) (λ k m h g q. c.below.invariant l e k m h (omega (arith, g)) q)
      (λ r q. let past = slice_get_within c.args.levels.now c.len.result r q in absurd (omega (arith, past)));
}
