use Rattle.std.proofs.Common.{length}
use Rattle.term_text.specs.Pending.{variables_of, pending, Prints}
use Rattle.term_text.specs.Placing.{ArePlaced}
use Rattle.term_text.proofs.printer.Printer.next_term.Given as goal

abbrev pub invariant-loop-innermost : goal.invariant-loop-innermost
invariant-loop-innermost l =
    record {
      written : Prints 0 l.initial.self (pending l.words l.store l.initial.self.opened) l.self (pending l.words l.store l.self.opened);
      placed : ArePlaced l.store (variables_of l.self.opened) l.self.nesting;
    }

abbrev pub decreases-loop-innermost : goal.decreases-loop-innermost
decreases-loop-innermost l = length l.self.opened
