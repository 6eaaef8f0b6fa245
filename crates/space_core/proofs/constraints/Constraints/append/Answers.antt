use Rattle.space_core.proofs.ConstraintLaws.{none_watched}
use Rattle.space_core.proofs.constraints.Constraints.append.Goals as goal

pub invariant_of-self : goal.invariant_of-self
invariant_of-self c = none_watched c.self.inside.store c.append.new.self c.new.result (c.new.ensures.knows c.self.inside.store)

pub invariant_of-self-2 : goal.invariant_of-self-2
invariant_of-self-2 c = none_watched c.self.inside.store c.append.new.self c.new.result (c.new.ensures.knows c.self.inside.store)
