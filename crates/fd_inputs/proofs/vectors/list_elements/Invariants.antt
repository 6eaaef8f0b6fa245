use Rattle.std.proofs.Common.{◌≡◌, suc, length, []}
use Rattle.oz_semantics.specs.Vectors.{list_elements}
use Rattle.fd_inputs.proofs.SpineLaws.{walked, after_all, WasPassed}
use Rattle.fd_inputs.proofs.vectors.list_elements.Given as goal

abbrev pub invariant-cells : goal.invariant-cells
invariant-cells l =
    (after_all l.elements.items (walked l.store (suc l.left) l.place) ≡ list_elements l.store (suc (length l.store)) [] l.x)
    × WasPassed l.store l.passed l.place

abbrev pub decreases-cells : goal.decreases-cells
decreases-cells l = l.left
