use Rattle.space_core.proofs.ConstraintLaws.{none_watched}
use Rattle.space_core.proofs.constraints.Constraints.drop_propagators.Goals as goal

pub invariant_of-self : goal.invariant_of-self
invariant_of-self c = none_watched c.self.inside.store c.new.result c.new-2.result (c.new-2.ensures.knows c.self.inside.store)
