use Rattle.std.proofs.Common.{◌≡◌, ◌≤◌, drop, length}
use Rattle.environments.specs.Environments.{binding_all}
use Rattle.statements.specs.Variables.{variables_of}
use Rattle.statements.proofs.calls.environment_inside.Given as goal

-- the last ones are bound
abbrev pub invariant-parameters : goal.invariant-parameters
invariant-parameters l = record {
  these : l.parameters ≡ l.procedure.parameters;
  within : l.left ≤ length l.parameters;
  set : l.inside ≡ binding_all (drop l.left l.parameters) (drop l.left (variables_of l.arguments)) l.procedure.environment;
}

abbrev pub decreases-parameters : goal.decreases-parameters
decreases-parameters l = l.left
