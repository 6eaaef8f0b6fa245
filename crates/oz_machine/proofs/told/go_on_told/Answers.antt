use Rattle.std.proofs.Common.{◌∙◌, ◌++◌, None, drop, ap, sym}
use Rattle.std.proofs.lemmas.List.{append-nil}
use Rattle.oz_semantics.specs.declared.outcome.Stepped.TheVariants.{Moved}
use Rattle.oz_machine.specs.declared.course.Due.TheVariants.{Mover}
use Rattle.oz_machine.specs.Courses.{asked}
use Rattle.oz_machine.specs.Quiet.{able_in}
use Rattle.oz_machine.proofs.DoingLaws.{course_view}
use Rattle.oz_machine.proofs.AbleLaws.{told_course}
use Rattle.oz_machine.proofs.ForetoldLaws.{foretold_sleeps, foretold_turn, single_sleeps}
use Rattle.oz_machine.proofs.told.go_on_told.Goals as goal

pub returns-then-lets_none_step-clause-turn : goal.returns-then-lets_none_step-clause-turn
returns-then-lets_none_step-clause-turn c = λ s layers ts changes head alone fits is foretold.
    let statements = c.args.kernel.now.statements in
    let id = c.args.mover.now in
    let old = c.args.course.now in
    let new = c.drop_terminated.new.self in
    let left = c.leave_alone.ensures in
    told_course statements id layers old.levels new (drop 1 old.queue) (asked statements new (Mover id None) (drop 1 old.queue)) old.shown ts changes c.args.cost head alone fits is c.drop_terminated.ensures
    (c.lets_none_step.ensures c.if-lets_none_step.true) (append-nil (drop 1 old.queue ++ able_in statements new id))
    ∙ ap (λ d. (Moved c.args.cost, d)) (sym (course_view statements c.leave_alone.new.course new (Mover id None) (drop 1 old.queue) old.shown left.levels (left.due id c.requires) left.queue left.shown))

pub returns-then-lets_none_step-clause-asleep : goal.returns-then-lets_none_step-clause-asleep
returns-then-lets_none_step-clause-asleep c = λ s layers ts changes head alone fits is foretold.
    let left = c.leave_alone.ensures in
    single_sleeps c.args.kernel.now.statements c.args.mover.now layers c.drop_terminated.new.self c.args.course.now c.leave_alone.new.course ts changes s head alone fits is c.drop_terminated.ensures c.args.woken foretold
    (c.lets_none_step.ensures c.if-lets_none_step.true).single left.levels (left.due c.args.mover.now c.requires) left.queue

pub returns-clause-turn : goal.returns-clause-turn
returns-clause-turn c = λ s layers ts changes head alone fits is foretold.
    foretold_turn c.args.kernel.now.statements c.args.mover.now layers c.drop_terminated.new.self c.args.course.now c.go_on_waking.new.course ts changes s head alone fits is c.drop_terminated.ensures c.args.cost
    c.go_on_waking.result c.args.woken c.go_on_waking.ensures.cost foretold (c.go_on_waking.ensures.follows c.args.kernel.now.statements c.args.mover.now c.requires)

pub returns-clause-asleep : goal.returns-clause-asleep
returns-clause-asleep c = λ s layers ts changes head alone fits is foretold.
    foretold_sleeps c.args.kernel.now.statements c.args.mover.now layers c.drop_terminated.new.self c.args.course.now c.go_on_waking.new.course ts changes s head alone fits is c.drop_terminated.ensures c.args.cost
    c.go_on_waking.result c.args.woken foretold (c.go_on_waking.ensures.follows c.args.kernel.now.statements c.args.mover.now c.requires)
