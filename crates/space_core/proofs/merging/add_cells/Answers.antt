use Rattle.std.proofs.Common.{◌++◌, ◌∷◌, [], List, sym, ap, ◌∙◌}
use Rattle.oz_base.specs.declared.names.Ident.{Ident}
use Rattle.cells_ports.specs.Objects.{Contents}
use Rattle.space_core.proofs.MergeLists.{appended_next}
use Rattle.space_core.proofs.merging.add_cells.Goals as goal

pub loop-cell-preserved : goal.loop-cell-preserved
loop-cell-preserved c =
    c.in_ok-add_cell.ensures.ok
    ∙ ap (λ (o : Contents). record o { cells = o.cells ++ c.in_ok-there.field-0 ∷ [] }) c.loop-cell.invariant
    ∙ ap (λ (xs : List Ident). record c.args.objects.now { cells = xs })
    (appended_next c.args.objects.now.cells c.args.other.now.cells c.loop-cell.cell c.in_ok-there.field-0 (sym c.content.ensures ∙ c.in_ok-there.ensures))
