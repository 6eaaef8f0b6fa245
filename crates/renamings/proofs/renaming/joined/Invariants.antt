use Rattle.std.proofs.Common.{◌≡◌, ◌++◌, take}
use Rattle.renamings.proofs.renaming.joined.Given as goal

-- the name goes on with the numbers so far
abbrev pub invariant-loop-number : goal.invariant-loop-number
invariant-loop-number l = l.name ≡ l.space ++ take l.number-index l.more
