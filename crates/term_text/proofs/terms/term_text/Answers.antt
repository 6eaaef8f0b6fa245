use Rattle.std.proofs.Common.{arith}
use Rattle.term_text.specs.Pending.{variables_of}
use Rattle.term_text.proofs.Printing.{term_node}
use Rattle.term_text.proofs.terms.term_text.Goals as goal

-- the term that comes next has a node at least, for which there is no fuel
pub returns : goal.returns
returns c =
    let more = term_node c.args.words.now c.args.store.now c.loop-nodes.term.bound (variables_of c.loop-nodes.printer.opened) c.loop-nodes.term.variable.now in
    omega (arith, more, c.loop-nodes.invariant.made.1)
