use Rattle.std.proofs.Common.{◌∙◌, sym, refl}
use Rattle.std.proofs.lemmas.List.{append_assoc}
use Rattle.term_text.specs.Pending.{variables_of}
use Rattle.term_text.proofs.Placed.{position_placed, record_placed}
use Rattle.term_text.proofs.printer.Printer.print_record.Goals as goal

pub unwrap-place-requires : goal.unwrap-place-requires
unwrap-place-requires c = record_placed c.place_law.ensures.values c.args.store.now c.args.term.now.variable.now _ c.value_place.result c.requires.told c.value_place.ensures

pub returns-in-None-clause-written : goal.returns-in-None-clause-written
returns-in-None-clause-written c =
    let place = sym c.value_place.ensures ∙ c.unwrap-place.ensures in
    let up = sym (position_placed c.place_law.ensures.apart c.args.store.now c.args.term.now.variable.now c.unwrap-place.result (variables_of c.args.self.now.opened) c.args.self.now.nesting place c.requires.placed) ∙ sym c.find.ensures ∙ c.in-None.is in
    rw up c.open_record.ensures.written

pub returns-in_ok-print_up-in-Some-clause-written : goal.returns-in_ok-print_up-in-Some-clause-written
returns-in_ok-print_up-in-Some-clause-written c =
    let place = sym c.value_place.ensures ∙ c.unwrap-place.ensures in
    let up = sym (position_placed c.place_law.ensures.apart c.args.store.now c.args.term.now.variable.now c.unwrap-place.result (variables_of c.args.self.now.opened) c.args.self.now.nesting place c.requires.placed) ∙ sym c.find.ensures ∙ c.in-Some.is in
    rw (up, c.in_ok-print_up-in-Some.ensures.opened, c.in_ok-print_up-in-Some.ensures.bytes) (simp append_assoc, refl)
