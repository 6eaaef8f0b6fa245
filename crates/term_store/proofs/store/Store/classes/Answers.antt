use Rattle.std.proofs.Common.{[], subst}
use Rattle.term_store.specs.Closing.{Going}
use Rattle.term_store.proofs.AnswerLaws.{partition}
use Rattle.term_store.proofs.store.Store.classes.Goals as goal

pub returns : goal.returns
returns c = partition c.args.self.now c.self.inside.classes (subst (λ ts. Going ts c.self.inside.classes []) c.self.view_is c.self.invariant)
