use Rattle.std.proofs.Common.{◌≡◌, ◌∷◌, None, refl, sym, position}
use Rattle.std.proofs.lemmas.List.{append_assoc}
use Rattle.oz_semantics.specs.Store.{same, value_of}
use Rattle.oz_semantics.specs.Texts.{form_in, printed}
use Rattle.term_text.specs.Pending.{variables_of}
use Rattle.term_text.proofs.Printing.{undetermined_printed}
use Rattle.term_text.proofs.printer.Printer.print_value.Goals as goal

pub returns-in_ok-print_undetermined-in-None-clause-written : goal.returns-in_ok-print_undetermined-in-None-clause-written
returns-in_ok-print_undetermined-in-None-clause-written c =
    let words = c.args.words.now in
    let view = c.args.store.now in
    let os = c.args.self.now.opened in
    let x = c.args.term.now.variable.now in
    let none : value_of view x ≡ None = sym c.in-None.ensures in
    rw (
      undetermined_printed words (form_in words view (x ∷ variables_of os)) (printed words view c.args.term.now.bound (x ∷ variables_of os)) (position (same view x) (variables_of os)) view x _ none c.told_domain.ensures,
      c.in_ok-print_undetermined-in-None.ensures.opened,
      c.in_ok-print_undetermined-in-None.ensures.bytes,
    ) (simp append_assoc, refl)
