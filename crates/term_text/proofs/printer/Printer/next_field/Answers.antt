use Rattle.std.proofs.Common.{◌∙◌, ◌++◌, ap, refl}
use Rattle.std.proofs.lemmas.List.{nil_from_length}
use Rattle.term_text.specs.Operands.{first_key, left_paren}
use Rattle.term_text.specs.Pending.{variables_of}
use Rattle.term_text.proofs.Placed.{rest_placed}
use Rattle.term_text.proofs.Printing.{closes, goes_on}
use Rattle.term_text.proofs.printer.Printer.next_field.Goals as goal

pub returns-in_default-clause-written : goal.returns-in_default-clause-written
returns-in_default-clause-written c =
    closes c.args.words.now c.args.store.now c.args.first c.args.self.now.opened c.close.new.self.opened c.args.innermost c.args.self.now.bytes.items c.close.new.self.bytes.items
    (nil_from_length c.args.innermost.fields.now c.in_default.ensures.cases) c.close.ensures.opened c.in_ok-close.ensures.bytes

pub returns-in_default-clause-placed : goal.returns-in_default-clause-placed
returns-in_default-clause-placed c =
    rw c.close.ensures.opened (rest_placed c.args.store.now c.args.innermost.variable.now (variables_of c.args.self.now.opened) c.args.self.now.nesting c.close.new.self.nesting c.requires c.in_ok-close.ensures.nesting)

pub returns-clause-written : goal.returns-clause-written
returns-clause-written c =
    let gap = c.in_ok-extend_from_slice.ensures.items ∙ ap (λ bs. c.args.self.now.bytes.items ++ bs) c.gap_before.ensures in
    let key = c.in_ok-next.ensures.bytes ∙ ap (λ bs. bs ++ first_key c.args.words.now c.args.innermost.next c.args.innermost.features.now) gap in
    let paren = c.in_ok-extend_from_slice-2.ensures.items ∙ ap (λ bs. c.add_first_key.new.out.items ++ bs) c.left_paren.ensures ∙ ap (λ bs. bs ++ left_paren c.is_enclosed-owed.result) key in
    goes_on c.args.words.now c.args.store.now c.args.first c.args.self.now.opened c.push.new.self c.args.innermost
    (record {
      variable = c.args.innermost.variable;
      form = c.args.innermost.form;
      owed = c.args.innermost.owed;
      features = c.in_ok-next.features;
      fields = c.in-Some.fields;
      next = c.in_ok-next.next;
      bound = c.args.innermost.bound;
    })
    c.in-Some.field.now c.is_enclosed-owed.result c.args.self.now.bytes.items c.extend_from_slice-2.new.self.items
    c.in_ok-push.ensures.ok c.in-Some.ensures.cases.0 c.in_ok-next.ensures.features c.in_ok-next.ensures.next refl refl refl refl c.is_enclosed-owed.ensures paren
