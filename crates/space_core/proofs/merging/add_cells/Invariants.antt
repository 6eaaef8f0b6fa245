use Rattle.std.proofs.Common.{◌≡◌, ◌++◌, take}
use Rattle.space_core.proofs.merging.add_cells.Given as goal

-- those so far
abbrev pub invariant-loop-cell : goal.invariant-loop-cell
invariant-loop-cell l = l.objects ≡ record l.initial.objects { cells = l.initial.objects.cells ++ take l.cell l.other.cells }
