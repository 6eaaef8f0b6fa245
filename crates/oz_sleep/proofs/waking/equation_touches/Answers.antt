use Rattle.std.proofs.Common.{◌≡◌, ◌⊎◌, inl, inr, [], ◌∷◌, None, sym, ap₂, ◌∙◌}
use Rattle.oz_base.specs.declared.names.Ident.{Ident}
use Rattle.oz_semantics.specs.Store.{told_value}
use Rattle.oz_sleep.proofs.WakingLaws.{untold, equation_alone}
use Rattle.oz_sleep.proofs.waking.equation_touches.Goals.{else-is_some-via-then-is_some+else-is_some-2, else-is_some-via-else-is_some}
use Rattle.oz_sleep.proofs.waking.equation_touches.Goals as goal

pub returns : goal.returns
returns c =
    let store = c.args.store.now in
    let left = c.args.left.now in
    let right = c.args.right.now in
    let free : (told_value store left ≡ None) ⊎ (told_value store right ≡ None) = elim c.else-is_some.branch [
      | else-is_some-via-then-is_some+else-is_some-2 w ↦ inr (untold w.told_value-then-is_some.result store right w.told_value-then-is_some.ensures (sym w.is_some-then-is_some.ensures ∙ w.if-is_some-2.false))
      | else-is_some-via-else-is_some w ↦ inl (untold c.told_value.result store left c.told_value.ensures (sym c.is_some.ensures ∙ w.if-is_some.false))
    ] in
    equation_alone store left right c.in_ok-two.field-0.items free
    (c.in_ok-two.ensures ∙ ap₂ (λ (a b : Ident). a ∷ b ∷ []) c.in_ok-copied.ensures c.in_ok-copied-2.ensures)
