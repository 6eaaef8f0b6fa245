use Rattle.std.proofs.Common.{◌∙◌, [], sym, ap, subst}
use Rattle.std.specs.Prelude.{option_copied}
use Rattle.term_store.specs.Closing.{Going}
use Rattle.term_store.specs.Places.{value_at}
use Rattle.term_store.proofs.AnswerLaws.{value_only, value_at_first}
use Rattle.term_store.proofs.store.Store.value.Goals as goal

pub returns-in-None : goal.returns-in-None
returns-in-None c =
    c.only_value.ensures
    ∙ value_only c.args.self.now c.self.inside.classes (subst (λ ts. Going ts c.self.inside.classes []) c.self.view_is c.self.invariant) c.args.variable.now c.find-found.result.root.now c.find-found.ensures.root
    (sym c.find-found.ensures.first ∙ c.in-None.is) (option_copied c.find-found.result.domain) c.find-found.ensures.domain

pub returns-in-Some : goal.returns-in-Some
returns-in-Some c =
    c.value.ensures
    ∙ ap (λ ts. value_at ts c.in-Some.place) c.self.view_is
    ∙ value_at_first c.args.self.now c.self.inside.classes (subst (λ ts. Going ts c.self.inside.classes []) c.self.view_is c.self.invariant) c.args.variable.now c.find-found.result.root.now c.find-found.ensures.root
    c.in-Some.place (sym c.find-found.ensures.first ∙ c.in-Some.is)
