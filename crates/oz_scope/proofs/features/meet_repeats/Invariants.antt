use Rattle.std.proofs.Common.{◌≡◌, [], drop}
use Rattle.oz_language.specs.Constants.{constant_eq}
use Rattle.oz_language.specs.Refusals.{repeat_faults}
use Rattle.oz_scope.specs.Keeps.{kept}
use Rattle.oz_scope.proofs.features.meet_repeats.Given as goal

abbrev pub invariant-places : goal.invariant-places
invariant-places l = kept (repeat_faults constant_eq l.seen.keys (drop l.constant-index l.places)) l.found ≡ kept (repeat_faults constant_eq [] l.places) l.initial.found
