use Rattle.std.proofs.Common.{◌≡◌, take}
use Rattle.oz_semantics.specs.Distributors.{undetermined}
use Rattle.fd_inputs.proofs.distribution.undetermined.Given as goal

abbrev pub invariant-loop-x : goal.invariant-loop-x
invariant-loop-x l = l.ones.items ≡ undetermined l.store (take l.x-index l.xs)
