use Rattle.std.proofs.Common.{◌∙◌, ap, subst}
use Rattle.oz_semantics.specs.Configurations.{ending, failed}
use Rattle.space_core.specs.Levels.{IsToldTo}
use Rattle.oz_machine.proofs.BoundLaws.{clash_left}
use Rattle.oz_machine.proofs.bounding.tell_or_fail.Goals as goal

pub returns-then-branch-clause-ok : goal.returns-then-branch-clause-ok
returns-then-branch-clause-ok c =
    let told = subst (IsToldTo c.args.space.now c.args.tells.now c.args.levels.now c.tell.new.self) c.if-branch.true c.in_ok-tell.ensures.told in
    told.left

pub returns-clause-ok : goal.returns-clause-ok
returns-clause-ok c =
    let space = c.args.space.now in
    let ts = c.args.tells.now in
    let old = c.args.levels.now in
    let told = subst (IsToldTo space ts old c.tell.new.self) c.if-branch.false c.in_ok-tell.ensures.told in
    c.fail.ensures
    ∙ ap (ending space failed) told.0
    ∙ clash_left space ts old c.requires.there c.requires.opened c.consistent.ensures told.1
