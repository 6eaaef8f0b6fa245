use Rattle.std.proofs.Common.{◌≡◌, length}
use Rattle.kernel_output.specs.Cells.{all_closed}
use Rattle.kernel_output.proofs.cells.Cells.close_all.Given as goal

abbrev pub invariant-cells : goal.invariant-cells
invariant-cells l = all_closed l.open l.output ≡ all_closed l.fn.self.open l.fn.output

abbrev pub decreases-cells : goal.decreases-cells
decreases-cells l = length l.open
