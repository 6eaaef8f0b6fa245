use Rattle.std.proofs.Common.{◌≡◌, map, take}
use Rattle.renamed_terms.specs.Meanings.{renaming_of}
use Rattle.space_core.proofs.renaming.renamed_objects.Given as goal

-- those so far
abbrev pub invariant-loop-port : goal.invariant-loop-port
invariant-loop-port l = l.after ≡ record { cells = map (renaming_of l.by).variable l.objects.cells; ports = map (renaming_of l.by).variable (take l.port l.objects.ports) }
