use Rattle.std.proofs.Common.{◌≡◌, take, map}
use Rattle.oz_semantics.specs.Propagation.{domain_in}
use Rattle.fd_inputs.proofs.distribution.domains_of.Given as goal

abbrev pub invariant-loop-x : goal.invariant-loop-x
invariant-loop-x l = l.domains.items ≡ map (domain_in l.store) (take l.x-index l.xs)
