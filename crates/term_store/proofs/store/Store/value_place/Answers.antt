use Rattle.std.proofs.Common.{◌∙◌, [], ap, subst}
use Rattle.term_store.specs.Classes.{first_in}
use Rattle.term_store.specs.Closing.{Going}
use Rattle.term_store.proofs.AnswerLaws.{place_at}
use Rattle.term_store.proofs.store.Store.value_place.Goals as goal

pub returns : goal.returns
returns c = c.find.ensures.first ∙ ap (first_in c.self.inside.classes) c.find.ensures.root ∙ place_at c.args.self.now c.self.inside.classes (subst (λ ts. Going ts c.self.inside.classes []) c.self.view_is c.self.invariant) c.args.variable.now
