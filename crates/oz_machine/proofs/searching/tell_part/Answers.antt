use Rattle.std.proofs.Common.{◌≡◌, ◌∙◌, ◌∷◌, [], List, subst}
use Rattle.oz_semantics.specs.Configurations.{in_layer, telling}
use Rattle.oz_semantics.specs.declared.value.Tell.{Tell}
use Rattle.settle_laws.specs.Settles.{Settles}
use Rattle.settle_laws.proofs.SettleLaws.{tell_settles}
use Rattle.space_core.specs.Levels.{IsToldTo}
use Rattle.oz_machine.proofs.searching.tell_part.Goals as goal

pub returns-then-branch-clause-ok : goal.returns-then-branch-clause-ok
returns-then-branch-clause-ok c =
    let space = c.args.space.now in
    let old = c.args.levels.now in
    let new = c.tell.new.self in
    let ts = c.deref.result.now in
    let told = subst (IsToldTo space ts old new) c.if-branch.true c.in_ok-tell.ensures.told in
    let are : ts ≡ c.args.tell ∷ [] = c.deref.ensures.value ∙ c.in_ok-tells.ensures.items in
    subst (λ (us : List Tell). Settles space (in_layer space (telling us) old) new) are (tell_settles space ts old new told.below told.left)
