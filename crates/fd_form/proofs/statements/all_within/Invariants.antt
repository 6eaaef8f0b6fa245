use Rattle.std.proofs.Common.{◌≡◌, take}
use Rattle.fd_form.specs.FdScripts.{all_within}
use Rattle.fd_form.proofs.statements.all_within.Given as goal

abbrev pub invariant-places : goal.invariant-places
invariant-places l = l.items ≡ all_within (take l.place-index l.places) (l.low, l.high)
