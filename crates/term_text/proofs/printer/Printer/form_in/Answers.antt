use Rattle.std.proofs.Common.{◌∙◌, Some, sym, ap}
use Rattle.oz_semantics.specs.declared.value.Value.{Value}
use Rattle.term_text.proofs.Placed.{record_placed}
use Rattle.term_text.proofs.printer.Printer.form_in.Goals as goal

pub unwrap-place-requires : goal.unwrap-place-requires
unwrap-place-requires c =
    record_placed c.place_law.ensures.values c.args.store.now c.args.variable.now c.in-Some-Record.shared c.value_place.result
    (sym c.in-Some-Record.ensures ∙ ap (λ (v : Value). Some v) c.in-Some-Record.field-0-is) c.value_place.ensures
