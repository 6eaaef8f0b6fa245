use Rattle.std.proofs.Common.{◌≡◌, [], ◌∷◌, Some, ap, option_copied}
use Rattle.oz_base.specs.declared.names.Ident.{Ident}
use Rattle.oz_semantics.specs.declared.value.Value.{Value}
use Rattle.oz_semantics.specs.declared.value.Tell.TheVariants.{Is}
use Rattle.oz_laws.specs.Touched.{Touches}
use Rattle.oz_sleep.proofs.WakingLaws.{found_then}
use Rattle.oz_sleep.proofs.waking.end_touches.Goals as goal

pub returns-in-Some : goal.returns-in-Some
returns-in-Some c =
    found_then c.value_touches.result (λ xs. (v : Value) → Touches c.args.store.now (Is c.in-Some.end.now v ∷ []) xs.items)
    (λ xs. (x : Ident) × (option_copied c.args.end ≡ Some x) × ((v : Value) → Touches c.args.store.now (Is x v ∷ []) xs.items))
    (λ xs h. (c.in-Some.end.now, ap option_copied c.in-Some.is, h)) c.value_touches.ensures
