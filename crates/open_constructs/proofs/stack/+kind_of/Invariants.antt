use Rattle.std.proofs.Common.{length}
use Rattle.open_constructs.proofs.stack.+kind_of.Given as goal

-- what is open round it
abbrev pub decreases-kind_of : goal.decreases-kind_of
decreases-kind_of l = length l.stack.now
