use Rattle.std.proofs.Common.{◌≡◌, true}
use Rattle.std.specs.List.{list_all, range_with_len}
use Rattle.oz_language.specs.Refusals.{contains}
use Rattle.fd_form.proofs.statements.has_all.Given as goal

abbrev pub invariant-places : goal.invariant-places
invariant-places l = list_all (contains l.fn.places) (range_with_len 0 l.place) ≡ true
