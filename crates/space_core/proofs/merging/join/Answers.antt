use Rattle.std.proofs.Common.{◌++◌, List, ap, ap₂, ◌∙◌, map}
use Rattle.oz_semantics.specs.Renamings.{renamed_propagator}
use Rattle.oz_semantics.specs.declared.configuration.Trigger.{Trigger}
use Rattle.oz_semantics.specs.declared.configuration.Propagator.{Propagator}
use Rattle.cells_ports.specs.Objects.{Contents}
use Rattle.renamed_terms.specs.Meanings.{renaming_of}
use Rattle.space_core.proofs.MergeLists.{joins_quietly}
use Rattle.space_core.proofs.merging.join.Goals as goal

pub returns : goal.returns
returns c =
    joins_quietly (renaming_of c.args.by.now) c.args.child.now c.args.level.now c.drop_top.new.level c.args.number c.drop_top.ensures
    c.join.new.self c.in_ok-join.ensures
    c.append.new.self (c.in_ok-append.ensures ∙ ap (λ (ts : List Trigger). c.drop_top.new.level.triggers ++ ts) (c.into_vec.ensures ∙ c.in_ok-triggers.ensures))
    c.append-2.new.self (c.in_ok-append-2.ensures ∙ ap (λ (ps : List Propagator). record c.drop_top.new.level.constraints { propagators = c.drop_top.new.level.constraints.propagators ++ ps })
    (c.into_vec-2.ensures ∙ c.in_ok-propagators.ensures ∙ ap (map (renamed_propagator (renaming_of c.args.by.now))) c.propagators.ensures))
    c.add_ports.new.objects (c.in_ok-add_ports.ensures ∙ ap₂ (λ (o p : Contents). record o { ports = o.ports ++ p.ports }) (c.in_ok-add_cells.ensures ∙ ap (λ (p : Contents). record c.drop_top.new.level.objects { cells = c.drop_top.new.level.objects.cells ++ p.cells }) c.in_ok-objects.ensures) c.in_ok-objects.ensures)
    c.in_ok-level.field-0 c.in_ok-level.ensures
