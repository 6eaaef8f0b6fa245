use Rattle.std.proofs.Common.{◌∙◌}
use Rattle.term_text.specs.Pending.{variables_of}
use Rattle.term_text.proofs.Placed.{position_placed}
use Rattle.term_text.proofs.printer.Printer.find_open.Goals as goal

pub returns : goal.returns
returns c =
    c.find.ensures
    ∙ position_placed c.place_law.ensures.apart c.args.store.now c.args.variable.now c.args.place (variables_of c.args.self.now.opened) c.args.self.now.nesting c.requires.at c.requires.placed
