use Rattle.std.proofs.Common.{◌≡◌, ◌≤◌, ◌++◌, drop, length}
use Rattle.oz_semantics.specs.Configurations.{frames_of}
use Rattle.space_core.proofs.declarations.push_body.Given as goal

-- the last ones are on the stack
abbrev pub invariant-statements : goal.invariant-statements
invariant-statements l = record {
  within : l.left ≤ length l.body;
  pushed : l.stack ≡ frames_of l.environment (drop l.left l.body) ++ l.initial.stack;
}

abbrev pub decreases-statements : goal.decreases-statements
decreases-statements l = l.left
