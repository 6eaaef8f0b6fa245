use Rattle.std.proofs.Common.{[], subst}
use Rattle.term_store.specs.Closing.{Going}
use Rattle.term_store.proofs.AnswerLaws.{partition}
use Rattle.term_store.proofs.store.Store.is_alone.Goals as goal

pub returns : goal.returns
returns c = λ e other s. c.is_alone.ensures e other (((partition c.args.self.now c.self.inside.classes (subst (λ ts. Going ts c.self.inside.classes []) c.self.view_is c.self.invariant)).classes other c.args.variable.now).0 s)
