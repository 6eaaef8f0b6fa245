use Rattle.std.proofs.Common.{◌≡◌, unwrap_or}
use Rattle.oz_semantics.specs.Triggers.{fired_for}
use Rattle.by_need.proofs.rounds.rounds.Given as goal

-- as many rounds are left
abbrev pub invariant-passes : goal.invariant-passes
invariant-passes l = fired_for l.statements l.more (unwrap_or l.after l.levels) ≡ fired_for l.statements l.most l.levels

abbrev pub decreases-passes : goal.decreases-passes
decreases-passes l = l.more
