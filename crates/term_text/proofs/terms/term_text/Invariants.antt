use Rattle.oz_semantics.specs.Texts.{term_text}
use Rattle.term_text.specs.Pending.{variables_of, with_term, MakesUp}
use Rattle.term_text.specs.Placing.{ArePlaced}
use Rattle.term_text.proofs.terms.term_text.Given as goal

abbrev pub invariant-loop-nodes : goal.invariant-loop-nodes
invariant-loop-nodes l =
    record {
      made : MakesUp l.nodes l.printer (with_term l.words l.store l.printer.opened l.term) (term_text l.words l.store l.variable);
      placed : ArePlaced l.store (variables_of l.printer.opened) l.printer.nesting;
    }
