-- Whether a thread is among some others, and which threads join a queue.
use Rattle.std.specs.Prelude.{Bool, false, not, ◌&&◌, Option, Some, None}
use Rattle.oz_base.specs.Names.{ident_eq}
use Rattle.oz_base.specs.declared.names.Ident.{Ident}
use Rattle.oz_semantics.specs.Settling.{is_among}
use Rattle.oz_threads.specs.declared.members.Members.{Members}
use Rattle.oz_threads.specs.declared.members.Members.TheVariants.{Few, FewQueued, Many}

abbrev pub is_member : Members → Ident → Bool
is_member (Few ids) id = is_among ids.now id
is_member (FewQueued ids) id = is_among ids.now.items id
is_member (Many set) id = is_among set.keys id

-- the thread that stepped
abbrev pub is_mover : Option Ident → Ident → Bool
is_mover None id = false
is_mover (Some mover) id = ident_eq id mover

-- neither in the queue nor the thread that stepped
abbrev pub joins : (Ident → Bool) → Option Ident → Ident → Bool
joins is_queued mover id = not (is_queued id) && not (is_mover mover id)
