use Rattle.std.proofs.Common.{◌≡◌, ◌++◌, take}
use Rattle.space_core.proofs.merging.add_ports.Given as goal

-- those so far
abbrev pub invariant-loop-port : goal.invariant-loop-port
invariant-loop-port l = l.objects ≡ record l.initial.objects { ports = l.initial.objects.ports ++ take l.port l.other.ports }
