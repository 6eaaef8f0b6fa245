use Rattle.std.proofs.Common.{◌∙◌, List, ◌∷◌, Option, Some, drop, refl, ap, sym, subst}
use Rattle.std.specs.Prelude.{option_to_list}
use Rattle.oz_base.specs.declared.names.Ident.{Ident}
use Rattle.oz_semantics.specs.Settling.{settled}
use Rattle.oz_semantics.specs.declared.configuration.Layer.{Layer}
use Rattle.oz_semantics.specs.declared.outcome.Stepped.TheVariants.{Moved}
use Rattle.settle_laws.proofs.SettleLaws.{nothing_fails}
use Rattle.oz_machine.specs.declared.course.Due.TheVariants.{Mover}
use Rattle.oz_machine.specs.Courses.{asked, stepping}
use Rattle.oz_machine.specs.Quiet.{LeavesOthers}
use Rattle.oz_machine.proofs.DoingLaws.{course_view}
use Rattle.oz_machine.proofs.AbleLaws.{quiet_course}
use Rattle.oz_machine.proofs.ForetoldLaws.{but_same}
use Rattle.oz_machine.proofs.SleepLaws.{quiet_laid}
use Rattle.oz_machine.proofs.quiet.go_on_quietly.Goals as goal

pub returns-then-not-leaves_others-clause-turn : goal.returns-then-not-leaves_others-clause-turn
returns-then-not-leaves_others-clause-turn c = λ layers changes head is names quiet unless.
    let statements = c.args.kernel.now.statements in
    let id = c.args.mover.now in
    let old = c.args.course.now in
    let left = c.drop_terminated.new.self in
    ap (λ (ls : List Layer). settled statements (Some id) c.args.cost (record (stepping old) { layers = ls })) (sym c.drop_terminated.ensures)
    ∙ c.follow.ensures.turn statements id left c.requires (nothing_fails id.space left c.consistent.ensures)

pub returns-clause-turn : goal.returns-clause-turn
returns-clause-turn c = λ layers changes head is names quiet unless.
    let statements = c.args.kernel.now.statements in
    let id = c.args.mover.now in
    let old = c.args.course.now in
    let new = c.drop_terminated.new.self in
    let left = c.leave_alone.ensures in
    let others = subst (λ (o : Option Ident). LeavesOthers statements new id.space c.args.gives (id ∷ option_to_list o)) c.as_ref.ensures.value (c.leaves_others.ensures c.if-not-leaves_others.false) in
    quiet_course statements id layers old.levels new (drop 1 old.queue) (asked statements new (Mover id c.args.started) (drop 1 old.queue)) old.shown changes c.args.started c.args.gives c.args.cost head is names quiet unless
    c.drop_terminated.ensures others refl
    ∙ ap (λ d. (Moved c.args.cost, d)) (sym (course_view statements c.leave_alone.new.course new (Mover id c.args.started) (drop 1 old.queue) old.shown left.levels (left.due id c.requires) left.queue left.shown))

pub returns-then-not-leaves_others-clause-asleep : goal.returns-then-not-leaves_others-clause-asleep
returns-then-not-leaves_others-clause-asleep c = λ s layers changes head is names laid. c.follow.ensures.asleep c.args.kernel.now.statements s

pub returns-clause-asleep : goal.returns-clause-asleep
returns-clause-asleep c = λ s layers changes head is names laid.
    let statements = c.args.kernel.now.statements in
    let id = c.args.mover.now in
    let old = c.args.course.now in
    let new = c.drop_terminated.new.self in
    let left = c.leave_alone.ensures in
    but_same statements s c.leave_alone.new.course new (Mover id c.args.started) (drop 1 old.queue) left.levels (left.due id c.requires) left.queue
    (λ own. quiet_laid statements id layers old.levels new (drop 1 old.queue) old.shown changes c.args.started s head is names c.drop_terminated.ensures laid own)
