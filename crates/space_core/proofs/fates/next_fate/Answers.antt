use Rattle.std.proofs.Common.{inl, inr, refl, sym, ◌∙◌}
use Rattle.space_core.proofs.fates.next_fate.Goals as goal

pub returns-then-not-is_properly_above-clause-path : goal.returns-then-not-is_properly_above-clause-path
returns-then-not-is_properly_above-clause-path c = inl (sym c.is_properly_above.ensures ∙ c.if-not-is_properly_above.true, refl)

pub returns-clause-path : goal.returns-clause-path
returns-clause-path c = inr (
  sym c.is_properly_above.ensures ∙ c.if-not-is_properly_above.false,
  (c.fate_below.new.path.items, c.in_ok-fate.ensures.path, c.in_ok-push.ensures.items),
)
