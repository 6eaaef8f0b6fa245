use Rattle.std.proofs.Common.{◌≡◌, length}
use Rattle.oz_language.specs.Refusals.{with_names}
use Rattle.oz_scope.proofs.names.enter.Given as goal

abbrev pub invariant-variables : goal.invariant-variables
invariant-variables l = with_names l.rest l.scope ≡ with_names l.variables l.initial.scope

abbrev pub decreases-variables : goal.decreases-variables
decreases-variables l = length l.rest
