use Rattle.std.proofs.Common.{◌∙◌, sym, ap}
use Rattle.std.specs.Prelude.{option_copied}
use Rattle.term_store.proofs.AnswerLaws.{value_keeps}
use Rattle.term_store.proofs.store.Store.keeps_to.Goals as goal

pub returns-in-Some : goal.returns-in-Some
returns-in-Some c = c.value_within.ensures ∙ value_keeps c.args.self.now c.args.variable.now c.args.intervals.now c.in-Some.value.now (sym c.told_value.ensures ∙ ap (λ o. option_copied o) c.in-Some.is)
