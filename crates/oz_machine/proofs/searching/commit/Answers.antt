use Rattle.std.proofs.Common.{List, sym, subst}
use Rattle.oz_semantics.specs.declared.configuration.Layer.{Layer}
use Rattle.oz_semantics.specs.Edits.{committed}
use Rattle.oz_machine.specs.Asleep.{Sleeps}
use Rattle.oz_machine.specs.Courses.{config_of}
use Rattle.oz_machine.proofs.SearchLaws.{chosen_by}
use Rattle.oz_machine.proofs.searching.commit.Goals as goal

pub returns-clause-commit : goal.returns-clause-commit
returns-clause-commit c =
    let st = c.args.statements.now in
    let settled = c.settle_only.new.course in
    let space = c.args.space.now in
    chosen_by st space c.args.index c.args.course.now settled (config_of st c.follow_edit.new.course) c.settle_only.ensures.same c.in_ok-settle_only.ensures.due
    (c.follow_edit.ensures.follows st space settled.levels (committed st space c.args.index settled.levels) c.in_ok-commit_in.ensures.ok)

pub returns-in_err-commit_in-clause-asleep : goal.returns-in_err-commit_in-clause-asleep
returns-in_err-commit_in-clause-asleep c =
    let settled = c.settle_only.new.course in
    subst (λ (ls : List Layer). Sleeps c.args.statements.now c.settle_only.new.sleeping (record settled { levels = ls })) (sym c.in_err-commit_in.ensures.err) c.settle_only.ensures.asleep

pub returns-clause-asleep : goal.returns-clause-asleep
returns-clause-asleep c = c.follow_edit.ensures.asleep c.args.statements.now c.settle_only.new.sleeping
