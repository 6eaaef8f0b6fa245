use Rattle.std.proofs.Common.{◌≡◌, take, filter}
use Rattle.tree_equal.specs.Grown.{awaits}
use Rattle.tree_equal.proofs.affected.waiting.Given as goal

-- those so far
abbrev pub invariant-loop-variable : goal.invariant-loop-variable
invariant-loop-variable l = l.waiting.items ≡ filter (awaits l.store l.after l.touched) (take l.variable-index l.touched)
