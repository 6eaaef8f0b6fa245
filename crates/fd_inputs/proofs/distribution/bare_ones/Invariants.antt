use Rattle.std.proofs.Common.{◌≡◌, take, filter}
use Rattle.oz_semantics.specs.Distributors.{is_bare}
use Rattle.fd_inputs.proofs.distribution.bare_ones.Given as goal

abbrev pub invariant-loop-x : goal.invariant-loop-x
invariant-loop-x l = l.ones.items ≡ filter (is_bare l.store) (take l.x-index l.xs)
