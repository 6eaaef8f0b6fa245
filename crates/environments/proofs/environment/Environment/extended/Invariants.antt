use Rattle.std.proofs.Common.{◌≡◌, ◌≤◌, drop, length}
use Rattle.environments.specs.Environments.{binding_all}
use Rattle.environments.proofs.environment.Environment.extended.Given as goal

abbrev pub invariant-names : goal.invariant-names
invariant-names l = record {
  within : l.left ≤ length l.names;
  set : l.extended ≡ binding_all (drop l.left l.names) (drop l.left l.variables) l.self;
}

abbrev pub decreases-names : goal.decreases-names
decreases-names l = l.left
