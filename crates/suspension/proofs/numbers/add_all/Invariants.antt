use Rattle.std.proofs.Common.{◌≡◌, ◌++◌, take}
use Rattle.suspension.proofs.numbers.add_all.Given as goal

-- what was passed stands behind
abbrev pub invariant-items : goal.invariant-items
invariant-items l = l.numbers.items ≡ l.initial.numbers.items ++ take l.place l.list
