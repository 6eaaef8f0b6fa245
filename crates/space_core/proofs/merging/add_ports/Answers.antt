use Rattle.std.proofs.Common.{◌++◌, ◌∷◌, [], List, sym, ap, ◌∙◌}
use Rattle.oz_base.specs.declared.names.Ident.{Ident}
use Rattle.cells_ports.specs.Objects.{Contents}
use Rattle.space_core.proofs.MergeLists.{appended_next}
use Rattle.space_core.proofs.merging.add_ports.Goals as goal

pub loop-port-preserved : goal.loop-port-preserved
loop-port-preserved c =
    c.in_ok-add_port.ensures.ok
    ∙ ap (λ (o : Contents). record o { ports = o.ports ++ c.in_ok-there.field-0 ∷ [] }) c.loop-port.invariant
    ∙ ap (λ (xs : List Ident). record c.args.objects.now { ports = xs })
    (appended_next c.args.objects.now.ports c.args.other.now.ports c.loop-port.port c.in_ok-there.field-0 (sym c.end.ensures ∙ c.in_ok-there.ensures))
