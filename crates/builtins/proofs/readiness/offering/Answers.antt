use Rattle.std.proofs.Common.{[], refl, ap}
use Rattle.std.specs.List.{list_any}
use Rattle.oz_semantics.specs.Store.{same}
use Rattle.oz_semantics.specs.Sights.{Number}
use Rattle.builtins.specs.Looks.{offering}
use Rattle.builtins.proofs.readiness.offering.Goals as goal

pub returns-in-Some : goal.returns-in-Some
returns-in-Some c = λ view x. (Number c.in-Some.count x, [], ap (offering x) c.in-Some.is, refl, λ z. ap (list_any (same view z)) c.new.ensures)
