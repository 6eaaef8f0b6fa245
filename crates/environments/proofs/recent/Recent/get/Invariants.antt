use Rattle.std.proofs.Common.{◌≡◌}
use Rattle.std.specs.FinMap as maps
use Rattle.environments.specs.Recents.{meant}
use Rattle.environments.proofs.recent.Recent.get.Given as goal

abbrev pub invariant-cells : goal.invariant-cells
invariant-cells l = maps.get (meant l.left) l.code ≡ maps.get (meant l.self) l.code
