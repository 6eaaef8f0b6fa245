use Rattle.std.proofs.Common.{◌≡◌, [], map, take}
use Rattle.renamed_terms.specs.Meanings.{renaming_of}
use Rattle.space_core.proofs.renaming.renamed_cells.Given as goal

-- those so far
abbrev pub invariant-loop-cell : goal.invariant-loop-cell
invariant-loop-cell l = l.after ≡ record { cells = map (renaming_of l.by).variable (take l.cell l.objects.cells); ports = [] }
