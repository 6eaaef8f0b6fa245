use Rattle.std.proofs.Common.{◌++◌, ◌∷◌, [], List, map, sym, ap, ◌∙◌}
use Rattle.std.specs.Option.{option_map}
use Rattle.oz_base.specs.declared.names.Ident.{Ident}
use Rattle.cells_ports.specs.Objects.{Contents}
use Rattle.renamed_terms.specs.Meanings.{renaming_of}
use Rattle.space_core.proofs.RenamedLaws.{map_next}
use Rattle.space_core.proofs.renaming.renamed_objects.Goals as goal

pub loop-port-preserved : goal.loop-port-preserved
loop-port-preserved c =
    let r = (renaming_of c.args.by.now).variable in
    c.in_ok-add_port.ensures.ok
    ∙ ap (λ (o : Contents). record o { ports = o.ports ++ c.in_ok-renamed_variable.field-0 ∷ [] }) c.loop-port.invariant
    ∙ ap (λ (xs : List Ident). record { cells = map r c.args.objects.now.cells; ports = xs })
    (map_next r c.args.objects.now.ports c.loop-port.port c.in_ok-renamed_variable.field-0 (ap (option_map r) (sym c.end.ensures) ∙ c.in_ok-renamed_variable.ensures))
