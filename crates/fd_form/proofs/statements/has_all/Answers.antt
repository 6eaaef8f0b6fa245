use Rattle.std.proofs.Common.{sym, ◌∙◌}
use Rattle.oz_language.specs.Refusals.{contains}
use Rattle.fd_form.proofs.PlaceLaws.{not_all}
use Rattle.fd_form.proofs.statements.has_all.Goals as goal

pub returns-then-not-has : goal.returns-then-not-has
returns-then-not-has c = sym (not_all (contains c.args.places.now) c.args.count c.places.place c.places-test.true (sym c.has.ensures ∙ c.if-not-has.true))
