use Rattle.std.proofs.Common.{[]}
use Rattle.oz_semantics.specs.BestSearch.{told_below}
use Rattle.oz_semantics.specs.Edits.{committed}
use Rattle.oz_machine.specs.Courses.{config_of}
use Rattle.oz_machine.proofs.BoundLaws.{below_by}
use Rattle.oz_machine.proofs.bounding.commit_below.Goals as goal

pub returns-clause-commit : goal.returns-clause-commit
returns-clause-commit c =
    let st = c.args.statements.now in
    let settled = c.settle_only.new.course in
    let space = c.args.space.now in
    let b = c.args.branch in
    below_by st space c.args.feature b c.args.course settled (config_of st c.follow_edit.new.course) c.settle_only.ensures.same c.in_ok-settle_only.ensures.due
    (c.follow_edit.ensures.follows st [] settled.levels (told_below space c.args.feature b.bound (committed st space b.alternative settled.levels)) c.in_ok-levels.ensures.settles)

pub returns-clause-asleep : goal.returns-clause-asleep
returns-clause-asleep c = c.follow_edit.ensures.asleep c.args.statements.now c.settle_only.new.sleeping
