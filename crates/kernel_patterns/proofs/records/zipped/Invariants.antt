use Rattle.std.proofs.Common.{◌≡◌}
use Rattle.std.specs.List.{zip}
use Rattle.kernel_patterns.proofs.records.zipped.Given as goal

abbrev pub invariant-values : goal.invariant-values
invariant-values g l = l.fields ≡ zip l.fn.keys l.yielded
