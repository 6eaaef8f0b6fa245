use Rattle.std.proofs.Common.{◌≡◌, ◌++◌, take}
use Rattle.watching.proofs.keys.append.Given as goal

-- what was passed stands behind
abbrev pub invariant-items : goal.invariant-items
invariant-items l = l.list ≡ l.initial.list ++ take l.place l.more
