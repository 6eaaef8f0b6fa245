use Rattle.std.proofs.Common.{length}
use Rattle.space_core.proofs.sights.+store_of.Given as goal

-- the names of spaces above are shorter
abbrev pub decreases-store_of : goal.decreases-store_of
decreases-store_of l = length l.level.now.space
