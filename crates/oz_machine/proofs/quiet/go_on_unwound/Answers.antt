use Rattle.std.proofs.Common.{◌∙◌, ◌++◌, List, Some, None, drop, ap, sym}
use Rattle.std.proofs.lemmas.List.{append-nil}
use Rattle.oz_semantics.specs.Settling.{settled}
use Rattle.oz_semantics.specs.declared.configuration.Layer.{Layer}
use Rattle.oz_semantics.specs.declared.outcome.Stepped.TheVariants.{Moved}
use Rattle.settle_laws.proofs.SettleLaws.{nothing_fails}
use Rattle.oz_machine.specs.declared.course.Due.TheVariants.{Mover}
use Rattle.oz_machine.specs.Courses.{asked, stepping}
use Rattle.oz_machine.specs.Quiet.{able_in}
use Rattle.oz_machine.proofs.DoingLaws.{course_view}
use Rattle.oz_machine.proofs.AbleLaws.{unwound_course}
use Rattle.oz_machine.proofs.quiet.go_on_unwound.Goals as goal

pub returns-then-not-leaves_others-clause-turn : goal.returns-then-not-leaves_others-clause-turn
returns-then-not-leaves_others-clause-turn c = λ layers frames head is.
    let statements = c.args.kernel.now.statements in
    let id = c.args.mover.now in
    let old = c.args.course.now in
    let left = c.drop_terminated.new.self in
    ap (λ (ls : List Layer). settled statements (Some id) 1 (record (stepping old) { layers = ls })) (sym c.drop_terminated.ensures)
    ∙ c.follow.ensures.turn statements id left c.requires (nothing_fails id.space left c.consistent.ensures)

pub returns-clause-turn : goal.returns-clause-turn
returns-clause-turn c = λ layers frames head is.
    let statements = c.args.kernel.now.statements in
    let id = c.args.mover.now in
    let old = c.args.course.now in
    let new = c.drop_terminated.new.self in
    let left = c.leave_alone.ensures in
    let others = c.leaves_others.ensures c.if-not-leaves_others.false in
    unwound_course statements id layers old.levels new (drop 1 old.queue) (asked statements new (Mover id None) (drop 1 old.queue)) old.shown frames 1 head is c.drop_terminated.ensures others
    (append-nil (drop 1 old.queue ++ able_in statements new id))
    ∙ ap (λ d. (Moved 1, d)) (sym (course_view statements c.leave_alone.new.course new (Mover id None) (drop 1 old.queue) old.shown left.levels (left.due id c.requires) left.queue left.shown))
