use Rattle.std.proofs.Common.{List, [], ◌∷◌, ◌++◌, sym, ap₂, ◌∙◌}
use Rattle.oz_base.specs.declared.names.Ident.{Ident}
use Rattle.oz_sleep.proofs.WakingLaws.{untold, value_alone}
use Rattle.oz_sleep.proofs.waking.value_touches.Goals as goal

pub returns : goal.returns
returns c =
    value_alone c.args.store.now c.args.variable.now c.push.new.self.items
    (untold c.told_value.result c.args.store.now c.args.variable.now c.told_value.ensures (sym c.is_some.ensures ∙ c.if-is_some.false))
    (c.in_ok-push.ensures.items ∙ ap₂ (λ (zs : List Ident) (y : Ident). zs ++ y ∷ []) c.new-touched.ensures.items c.in_ok-copied.ensures)
