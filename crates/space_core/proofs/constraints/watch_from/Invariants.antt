use Rattle.std.proofs.Common.{take}
use Rattle.watching.specs.Watching.{Knows}
use Rattle.space_core.proofs.constraints.watch_from.Given as goal

-- those so far are watched
abbrev pub invariant-rest : goal.invariant-rest
invariant-rest l = Knows l.store (take l.fn.from l.propagators) l.initial.watch → Knows l.store (take l.index l.propagators) l.watch
