use Rattle.std.proofs.Common.{◌≡◌, take}
use Rattle.oz_semantics.specs.Constraints.{confined}
use Rattle.fd_inputs.proofs.news.confinements.Given as goal

abbrev pub invariant-loop-x : goal.invariant-loop-x
invariant-loop-x l = l.tells.items ≡ confined (take l.x-index l.xs) l.interval
