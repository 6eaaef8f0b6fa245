use Rattle.std.proofs.Common.{◌≡◌, take, filter}
use Rattle.std.specs.Prelude.{option_copied}
use Rattle.oz_threads.specs.Members.{is_member, joins}
use Rattle.oz_threads.proofs.queue.others_of.Given as goal

-- of those passed so far the ones that join
abbrev pub invariant-loop-id : goal.invariant-loop-id
invariant-loop-id l = l.others.items ≡ filter (joins (is_member l.queued) (option_copied l.mover)) (take l.id-index l.ids)
