use Rattle.std.proofs.Common.{take}
use Rattle.propagation.specs.Runs.{AreDomainsOf}
use Rattle.propagation.proofs.runs.domains_of.Given as goal

abbrev pub invariant-loop-variable : goal.invariant-loop-variable
invariant-loop-variable l = AreDomainsOf l.store (take l.variable-index l.variables) l.domains.items
