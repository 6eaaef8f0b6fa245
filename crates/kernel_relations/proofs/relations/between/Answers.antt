use Rattle.kernel_relations.proofs.RelationLaws.{between_loop}
use Rattle.kernel_relations.proofs.relations.between.Goals as goal

pub numbers-preserved : goal.numbers-preserved
numbers-preserved c = between_loop _ _ _ c.numbers.number c.args.behind.next c.numbers-test.true c.in_ok-push.ensures.ok c.numbers.invariant
