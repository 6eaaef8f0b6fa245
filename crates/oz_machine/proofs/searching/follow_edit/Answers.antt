use Rattle.std.proofs.Common.{refl}
use Rattle.oz_machine.proofs.SearchLaws.{follows_edit}
use Rattle.oz_machine.proofs.searching.follow_edit.Goals as goal

pub returns-clause-follows : goal.returns-clause-follows
returns-clause-follows c = λ statements space before made settles.
    let old = c.args.course.now in
    follows_edit statements space before made old.levels old.queue old.shown _ settles refl

pub returns-clause-asleep : goal.returns-clause-asleep
returns-clause-asleep c = λ statements s known. tt
