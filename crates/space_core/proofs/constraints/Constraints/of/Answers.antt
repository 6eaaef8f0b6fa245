use Rattle.space_core.proofs.ConstraintLaws.{none_watched}
use Rattle.space_core.proofs.constraints.Constraints.of.Goals as goal

pub invariant_of-result : goal.invariant_of-result
invariant_of-result c = none_watched c.args.store c.args.propagators c.new.result (c.new.ensures.knows c.args.store)
