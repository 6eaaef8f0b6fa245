use Rattle.std.proofs.Common.{◌∙◌, sym, ap}
use Rattle.std.specs.Prelude.{option_copied}
use Rattle.term_store.specs.Logs.{told_in}
use Rattle.term_store.proofs.FittingLaws.{fits_value}
use Rattle.term_store.proofs.closing.value_suits.Goals as goal

pub returns-in-Some : goal.returns-in-Some
returns-in-Some c = fits_value (told_in c.args.log.now) c.args.place c.in-Some.value.now c.args.domain.now c.has.result (sym c.value.ensures ∙ ap (λ o. option_copied o) c.in-Some.is) c.has.ensures
