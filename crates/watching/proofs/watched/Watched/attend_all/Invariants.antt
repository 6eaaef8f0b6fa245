use Rattle.std.proofs.Common.{List, take, flat_map}
use Rattle.oz_semantics.specs.declared.configuration.Propagator.{Propagator}
use Rattle.watching.specs.Changes.{Wakes}
use Rattle.watching.specs.Watching.{Tracks, touched_by}
use Rattle.watching.proofs.watched.Watched.attend_all.Given as goal

-- what those that were passed touch is woken
abbrev pub invariant-loop-tell : goal.invariant-loop-tell
invariant-loop-tell l =
    (ps : List Propagator) → Tracks l.store ps l.initial.self
    → Wakes l.store ps (flat_map (touched_by l.store) (take l.tell-index l.tells)) l.initial.self l.self
