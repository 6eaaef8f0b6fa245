use Rattle.std.proofs.Common.{◌++◌, ◌∷◌, [], List, sym, ap, ◌∙◌}
use Rattle.std.specs.Option.{option_map}
use Rattle.oz_base.specs.declared.names.Ident.{Ident}
use Rattle.cells_ports.specs.Objects.{Contents}
use Rattle.renamed_terms.specs.Meanings.{renaming_of}
use Rattle.space_core.proofs.RenamedLaws.{map_next}
use Rattle.space_core.proofs.renaming.renamed_cells.Goals as goal

pub loop-cell-preserved : goal.loop-cell-preserved
loop-cell-preserved c =
    let r = (renaming_of c.args.by.now).variable in
    c.in_ok-add_cell.ensures.ok
    ∙ ap (λ (o : Contents). record o { cells = o.cells ++ c.in_ok-renamed_variable.field-0 ∷ [] }) c.loop-cell.invariant
    ∙ ap (λ (xs : List Ident). record { cells = xs; ports = [] })
    (map_next r c.args.objects.now.cells c.loop-cell.cell c.in_ok-renamed_variable.field-0 (ap (option_map r) (sym c.content.ensures) ∙ c.in_ok-renamed_variable.ensures))
