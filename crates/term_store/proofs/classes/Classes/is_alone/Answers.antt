use Rattle.std.proofs.Common.{◌∙◌, sym, ap, subst}
use Rattle.std.specs.Prelude.{option_copied}
use Rattle.ident_map.specs.Entries.{entry}
use Rattle.term_store.specs.Classes.{Ranked}
use Rattle.term_store.proofs.ClassLaws.{alone_by}
use Rattle.term_store.proofs.classes.Classes.is_alone.Goals as goal

pub returns : goal.returns
returns c = λ e. alone_by c.args.self.now (subst Ranked c.self.view_is c.self.invariant) c.args.variable.now (option_copied c.get.result) (c.get.ensures ∙ ap (λ t. entry t c.args.variable.now) c.self.view_is) (sym c.stands_alone.ensures ∙ e)
