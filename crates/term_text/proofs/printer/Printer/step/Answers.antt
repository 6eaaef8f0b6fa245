use Rattle.term_text.specs.Pending.{pending, with_term, after_move}
use Rattle.term_text.proofs.Printing.{follows}
use Rattle.term_text.proofs.printer.Printer.step.Goals as goal

pub returns-in-None-clause-written : goal.returns-in-None-clause-written
returns-in-None-clause-written c =
    let words = c.args.words.now in
    let view = c.args.store.now in
    follows c.next_term.result c.args.self.now.bytes.items c.print.new.self.bytes.items c.next_term.new.self.bytes.items (with_term words view c.args.self.now.opened c.args.term.now) (pending words view c.print.new.self.opened)
    (after_move words view c.next_term.new.self.opened) (rw c.in-None.is at c.in_ok-first.ensures.written) c.next_term.ensures.written
