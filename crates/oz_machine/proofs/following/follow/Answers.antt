use Rattle.std.proofs.Common.{◌∙◌, Some, drop, sym, ap}
use Rattle.oz_semantics.specs.declared.outcome.Stepped.TheVariants.{Moved}
use Rattle.settle_laws.proofs.SettleLaws.{settled_by}
use Rattle.oz_machine.specs.declared.course.Due.TheVariants.{Everybody}
use Rattle.oz_machine.proofs.DoingLaws.{course_view}
use Rattle.oz_machine.proofs.following.follow.Goals as goal

pub returns-clause-turn : goal.returns-clause-turn
returns-clause-turn c = λ statements mover before head h.
    let old = c.args.course.now in
    let left = c.leave_to_all.ensures in
    settled_by statements (Some mover) c.args.cost mover.space before old.levels (drop 1 old.queue) old.shown h
    ∙ ap (λ d. (Moved c.args.cost, d)) (sym (course_view statements c.leave_to_all.new.course old.levels (Everybody (Some mover)) (drop 1 old.queue) old.shown left.levels (left.due mover head) left.queue left.shown))
