use Rattle.std.proofs.Common.{◌≡◌, ◌++◌}
use Rattle.std.specs.List.{flat_map}
use Rattle.kernel_patterns.proofs.patterns.with_each.Given as goal

abbrev pub invariant-fields : goal.invariant-fields
invariant-fields l = l.pieces ≡ l.initial.pieces ++ flat_map (λ field. field) l.yielded
