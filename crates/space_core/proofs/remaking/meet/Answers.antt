use Rattle.std.proofs.Common.{inl, inr, sym, ap, ◌∙◌}
use Rattle.space_core.specs.Fates.{with_fate}
use Rattle.space_core.specs.declared.fates.Fate.{Fate}
use Rattle.space_core.proofs.FatedLaws.{fate_stays, fate_bare, fate_gone, fate_fails, fate_sees}
use Rattle.space_core.proofs.remaking.meet.Goals as goal

pub returns-in-Stays : goal.returns-in-Stays
returns-in-Stays c = elim c.in-Stays.is [
  | inl e ↦ fate_stays c.args.place c.args.levels.now.items ∙ ap (λ (f : Fate). with_fate c.args.place f c.args.levels.now.items) (sym e)
  | inr e ↦ fate_bare c.args.place c.args.levels.now.items ∙ ap (λ (f : Fate). with_fate c.args.place f c.args.levels.now.items) (sym e)
]

pub returns-in-Gone : goal.returns-in-Gone
returns-in-Gone c =
    c.remove-gone.ensures.items ∙ fate_gone c.args.place c.args.levels.now.items c.requires ∙ ap (λ (f : Fate). with_fate c.args.place f c.args.levels.now.items) (sym c.in-Gone.is)

pub returns-in-Fails : goal.returns-in-Fails
returns-in-Fails c =
    fate_fails c.args.place c.args.levels.now.items c.index_mut.result.now c.fail.new.level c.requires c.index_mut.ensures.value c.fail.ensures
    ∙ ap (λ (f : Fate). with_fate c.args.place f c.args.levels.now.items) (sym c.in-Fails.is)

pub returns-in-Sees : goal.returns-in-Sees
returns-in-Sees c =
    fate_sees c.args.place c.args.levels.now.items c.index_mut-in-Sees.result.now c.see.new.level c.requires c.index_mut-in-Sees.ensures.value c.in-Sees.seen c.see.ensures
    ∙ ap (λ (f : Fate). with_fate c.args.place f c.args.levels.now.items) (sym c.in-Sees.is)
