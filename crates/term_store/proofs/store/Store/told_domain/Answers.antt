use Rattle.std.proofs.Common.{◌∙◌, [], Some, None, sym, ap, subst}
use Rattle.std.specs.Prelude.{option_copied}
use Rattle.oz_domains.specs.Domains.{IntSet}
use Rattle.term_store.specs.Closing.{Going}
use Rattle.term_store.proofs.AnswerLaws.{domain_kept}
use Rattle.term_store.proofs.store.Store.told_domain.Goals as goal

pub returns-in-None : goal.returns-in-None
returns-in-None c =
    domain_kept c.args.self.now c.self.inside.classes (subst (λ ts. Going ts c.self.inside.classes []) c.self.view_is c.self.invariant) c.args.variable.now c.find.result.root.now c.find.ensures.root
    None (ap (λ o. option_copied o) (sym c.in-None.is) ∙ c.find.ensures.domain)

pub returns-in-Some : goal.returns-in-Some
returns-in-Some c =
    ap (λ (s : IntSet). Some s) (c.domain.ensures.domain ∙ c.get.ensures)
    ∙ domain_kept c.args.self.now c.self.inside.classes (subst (λ ts. Going ts c.self.inside.classes []) c.self.view_is c.self.invariant) c.args.variable.now c.find.result.root.now c.find.ensures.root
    (Some c.in-Some.domain.now) (ap (λ o. option_copied o) (sym c.in-Some.is) ∙ c.find.ensures.domain)
