use Rattle.std.proofs.Common.{◌+◌, ◌*◌}
use Rattle.shared_map.proofs.tree.+swap.Given as goal

abbrev pub decreases-Quad::swap : goal.decreases-Quad::swap
decreases-Quad::swap g l = 6 * l.height

abbrev pub decreases-Fork::swap : goal.decreases-Fork::swap
decreases-Fork::swap g l = 6 * l.height + 1

abbrev pub decreases-swapped_fork : goal.decreases-swapped_fork
decreases-swapped_fork g l = 6 * l.height + 2

abbrev pub decreases-swap_in_copied_fork : goal.decreases-swap_in_copied_fork
decreases-swap_in_copied_fork g l = 6 * l.height + 3

abbrev pub decreases-swap_in_fork : goal.decreases-swap_in_fork
decreases-swap_in_fork g l = 6 * l.height + 4

abbrev pub decreases-Tree::start_fork : goal.decreases-Tree::start_fork
decreases-Tree::start_fork g l = 6 * l.height + 3

abbrev pub decreases-Tree::swap : goal.decreases-Tree::swap
decreases-Tree::swap g l = 6 * l.height + 5
