use Rattle.std.proofs.Common.{◌≡◌}
use Rattle.std.specs.List.{range_with_len}
use Rattle.fd_form.proofs.vectors.places.Given as goal

abbrev pub invariant-places : goal.invariant-places
invariant-places l = l.found ≡ range_with_len 0 l.place
