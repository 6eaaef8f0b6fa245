use Rattle.std.proofs.Common.{◌∙◌, [], subst}
use Rattle.term_store.specs.Closing.{Going}
use Rattle.term_store.proofs.AnswerLaws.{same_is}
use Rattle.term_store.proofs.store.Store.same.Goals as goal

pub returns : goal.returns
returns c = c.are_one.ensures ∙ same_is c.args.self.now c.self.inside.classes (subst (λ ts. Going ts c.self.inside.classes []) c.self.view_is c.self.invariant) c.args.left.now c.args.right.now
