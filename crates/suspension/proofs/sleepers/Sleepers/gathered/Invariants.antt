use Rattle.std.proofs.Common.{take}
use Rattle.suspension.specs.Changes.{Gathered}
use Rattle.suspension.proofs.sleepers.Sleepers.gathered.Given as goal

-- those that were passed are gathered
abbrev pub invariant-keys : goal.invariant-keys
invariant-keys l = Gathered l.self (take l.place l.self.variables) l.others
