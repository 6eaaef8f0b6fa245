use Rattle.std.proofs.Common.{◌∙◌, ◌++◌, ap, refl}
use Rattle.oz_language.specs.SimpleTexts.{form_of}
use Rattle.term_text.specs.Operands.{opening, keyed}
use Rattle.term_text.specs.Pending.{after_node}
use Rattle.term_text.proofs.Printing.{opens}
use Rattle.term_text.proofs.printer.Printer.open_record.Goals as goal

pub returns-clause-written : goal.returns-clause-written
returns-clause-written c =
    let words = c.args.words.now in
    let v = c.args.record.now in
    let form = c.form_of-form.ensures ∙ ap (λ fs. form_of words v.label fs) c.as_slice-features.ensures in
    opens c.next_field.result words c.args.store.now c.args.self.now.opened
    (record {
      variable = c.args.term.now.variable;
      form = c.form_of-form.result;
      owed = c.args.term.now.owed;
      features = c.keyed.result;
      fields = c.as_slice.result;
      next = 1;
      bound = c.args.term.now.bound;
    })
    c.args.term.now v c.args.self.now.bytes.items c.add_opening.new.out.items c.next_field.new.self.bytes.items (after_node words c.args.store.now c.next_field.new.self.opened)
    (c.in_ok-add_opening.ensures ∙ ap (λ g. c.args.self.now.bytes.items ++ opening words g v.label) form)
    refl form refl refl refl
    (c.keyed.ensures ∙ ap (λ fs. keyed c.form_of-form.result fs) c.as_slice-features.ensures ∙ ap (λ g. keyed g v.features) form)
    c.as_slice.ensures c.next_field.ensures.written
