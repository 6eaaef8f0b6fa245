use Rattle.std.proofs.Common.{not, sym, ap, ◌∙◌}
use Rattle.watching.specs.Watching.{is_domainless}
use Rattle.watching.proofs.tells.is_domainless.Goals as goal

pub returns-in-Equal : goal.returns-in-Equal
returns-in-Equal c = ap not c.has_domain.ensures ∙ ap (is_domainless c.args.store.now) (sym c.in-Equal.is)

pub returns-in-Is : goal.returns-in-Is
returns-in-Is c = ap not c.has_domain-in-Is.ensures ∙ ap (is_domainless c.args.store.now) (sym c.in-Is.is)

pub returns-in-Within : goal.returns-in-Within
returns-in-Within c = ap not c.has_domain-in-Within.ensures ∙ ap (is_domainless c.args.store.now) (sym c.in-Within.is)
