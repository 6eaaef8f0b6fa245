use Rattle.std.proofs.Common.{◌∙◌, sym}
use Rattle.propagation.proofs.DueLaws.{none_intervals, some_intervals}
use Rattle.term_store.specs.VariableDomains.{set_of}
use Rattle.propagation.proofs.due.intervals_in.Goals as goal

pub returns-in-None : goal.returns-in-None
returns-in-None c = c.new.ensures ∙ sym (none_intervals c.args.store.now c.args.variable.now c.in-None.ensures)

pub returns-in-Some : goal.returns-in-Some
returns-in-Some c = rw (some_intervals c.args.store.now c.args.variable.now (set_of c.in-Some.domain) c.in-Some.ensures) c.intervals_of.ensures
