use Rattle.oz_semantics.specs.Texts.{term_text}
use Rattle.oz_machine.proofs.texts.variable_text.Goals as goal

pub returns : goal.returns
returns c = c.counted.ensures (term_text c.args.words.now c.args.store.now c.args.variable.now) c.args.fuel c.in_ok-text.ensures
