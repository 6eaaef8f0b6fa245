use Rattle.std.proofs.Common.{◌≡◌, suc, refl, arith}
use Rattle.std.proofs.lemmas.List.{append_assoc}
use Rattle.term_text.specs.Pending.{variables_of}
use Rattle.term_text.proofs.Printing.{printed_suc, printed_zero}
use Rattle.term_text.proofs.printer.Printer.print.Goals as goal

pub returns-in_default-clause-written : goal.returns-in_default-clause-written
returns-in_default-clause-written c =
    let e : c.args.term.now.bound ≡ 0 = omega arith in
    rw (printed_zero c.args.words.now c.args.store.now c.args.term.now.bound (variables_of c.args.self.now.opened) c.args.term.now.variable.now e, c.print_leaf.ensures.opened, c.in_ok-print_leaf.ensures.bytes)
    (simp append_assoc, refl)

pub returns-clause-written : goal.returns-clause-written
returns-clause-written c =
    let e : c.args.term.now.bound ≡ suc c.in-Some.bound = omega arith in
    rw (printed_suc c.args.words.now c.args.store.now c.args.term.now.bound c.in-Some.bound (variables_of c.args.self.now.opened) c.args.term.now.variable.now e) c.print_value.ensures.written
