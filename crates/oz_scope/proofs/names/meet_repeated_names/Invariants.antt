use Rattle.std.proofs.Common.{◌≡◌, [], drop, nat_eq}
use Rattle.oz_language.specs.Refusals.{repeat_faults}
use Rattle.oz_scope.specs.Keeps.{kept}
use Rattle.oz_scope.proofs.names.meet_repeated_names.Given as goal

abbrev pub invariant-variables : goal.invariant-variables
invariant-variables l = kept (repeat_faults nat_eq l.seen (drop l.name-index l.variables)) l.found ≡ kept (repeat_faults nat_eq [] l.variables) l.initial.found
