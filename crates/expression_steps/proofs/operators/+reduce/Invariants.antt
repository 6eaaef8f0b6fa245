use Rattle.std.proofs.Common.{length}
use Rattle.expression_steps.proofs.operators.+reduce.Given as goal

-- what is open round it
abbrev pub decreases-reduce : goal.decreases-reduce
decreases-reduce l = length l.stack.now.items
