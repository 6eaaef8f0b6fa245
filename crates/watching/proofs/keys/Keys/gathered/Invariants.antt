use Rattle.std.proofs.Common.{take}
use Rattle.watching.specs.Lists.{Gathered}
use Rattle.watching.proofs.keys.Keys.gathered.Given as goal

-- those that were passed are gathered
abbrev pub invariant-keys : goal.invariant-keys
invariant-keys l = Gathered l.store l.root l.self (take l.place l.self.variables) l.draft
