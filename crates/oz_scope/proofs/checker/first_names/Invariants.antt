use Rattle.std.proofs.Common.{◌≡◌, ◌-◌}
use Rattle.oz_scope.specs.Declares.{numbers_from}
use Rattle.oz_scope.proofs.checker.first_names.Given as goal

abbrev pub invariant-names : goal.invariant-names
invariant-names l = l.scope ≡ numbers_from (22 - l.count) l.count
