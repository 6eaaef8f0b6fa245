use Rattle.std.proofs.Common.{◌≡◌, map, take}
use Rattle.environments.specs.Environments.{bound}
use Rattle.oz_language.specs.declared.kernel.LinearTerm.{LinearTerm}
use Rattle.statements.proofs.posting.variables_of.Given as goal

abbrev pub invariant-loop-term : goal.invariant-loop-term
invariant-loop-term l = l.variables.items ≡ map (λ (t : LinearTerm). bound l.environment t.variable) (take l.term-index l.terms)
