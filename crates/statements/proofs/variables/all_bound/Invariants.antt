use Rattle.std.proofs.Common.{◌≡◌, map, take}
use Rattle.environments.specs.Environments.{bound}
use Rattle.statements.proofs.variables.all_bound.Given as goal

abbrev pub invariant-loop-name : goal.invariant-loop-name
invariant-loop-name l = l.variables.items ≡ map (bound l.environment) (take l.name-index l.names)
