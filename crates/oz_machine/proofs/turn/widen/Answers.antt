use Rattle.std.proofs.Common.{◌∙◌, Bool, if◌then◌else◌, ap, subst}
use Rattle.oz_semantics.specs.Configurations.{in_layer, telling}
use Rattle.oz_semantics.specs.Steps.{went_on, raised_kind}
use Rattle.oz_semantics.specs.declared.outcome.RaiseKind.TheVariants.{FailureTell}
use Rattle.settle_laws.proofs.SettleLaws.{tell_settles}
use Rattle.space_core.specs.Levels.{IsToldTo}
use Rattle.oz_machine.specs.Courses.{stepping}
use Rattle.oz_machine.proofs.turn.widen.Goals as goal

pub returns-clause-turn : goal.returns-clause-turn
returns-clause-turn c = λ statements.
    let id = c.args.id.now in
    let now = c.args.course.now in
    let ts = c.args.tells.now in
    let told = subst (IsToldTo id.space ts now.levels c.tell.new.self) c.if-not-branch.false c.in_ok-tell.ensures.told in
    let made = in_layer id.space (telling ts) now.levels in
    ap (λ (b : Bool). if b then went_on statements id 1 made (stepping now) else raised_kind statements id FailureTell now.levels (stepping now)) told.consistent
    ∙ c.go_on.ensures.turn statements made (tell_settles id.space ts now.levels c.tell.new.self told.below told.left)
