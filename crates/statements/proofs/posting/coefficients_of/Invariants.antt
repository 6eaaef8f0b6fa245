use Rattle.std.proofs.Common.{◌≡◌, map, take}
use Rattle.oz_language.specs.declared.kernel.LinearTerm.{LinearTerm}
use Rattle.statements.proofs.posting.coefficients_of.Given as goal

abbrev pub invariant-loop-term : goal.invariant-loop-term
invariant-loop-term l = l.coefficients.items ≡ map (λ (t : LinearTerm). t.coefficient) (take l.term-index l.terms)
