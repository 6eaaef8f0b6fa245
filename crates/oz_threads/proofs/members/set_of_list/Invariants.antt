use Rattle.std.proofs.Common.{◌≡◌, take}
use Rattle.oz_base.specs.declared.names.Ident.{Ident}
use Rattle.oz_semantics.specs.Settling.{is_among}
use Rattle.oz_threads.proofs.members.set_of_list.Given as goal

-- the set has those passed so far
abbrev pub invariant-loop-id : goal.invariant-loop-id
invariant-loop-id l = (id : Ident) → is_among l.set.keys id ≡ is_among (take l.id-index l.ids) id
