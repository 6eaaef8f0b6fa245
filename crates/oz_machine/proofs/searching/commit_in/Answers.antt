use Rattle.std.proofs.Common.{List, subst}
use Rattle.settle_laws.specs.Settles.{Settles}
use Rattle.settle_laws.proofs.SettleLaws.{nothing_fails}
use Rattle.oz_semantics.specs.declared.configuration.Layer.{Layer}
use Rattle.oz_machine.proofs.SearchLaws.{commit_left, commit_there, on_ok}
use Rattle.oz_machine.proofs.searching.commit_in.Goals as goal

pub returns-in-Nothing-clause-ok : goal.returns-in-Nothing-clause-ok
returns-in-Nothing-clause-ok c =
    let space = c.args.space.now in
    let old = c.args.levels.now in
    commit_left c.args.statements.now space c.args.index _ old old (rw c.in-Nothing.is at c.in_ok-choice.ensures.commits) (nothing_fails space old c.consistent.ensures)

pub returns-in_ok-replace_top-in-GoesOn-clause-ok : goal.returns-in_ok-replace_top-in-GoesOn-clause-ok
returns-in_ok-replace_top-in-GoesOn-clause-ok c =
    let space = c.args.space.now in
    let old = c.args.levels.now in
    let new = c.replace_top.new.self in
    commit_left c.args.statements.now space c.args.index _ old new (rw c.in-GoesOn.is at c.in_ok-choice.ensures.commits)
    (subst (λ (ls : List Layer). Settles space ls new) c.in_ok-replace_top-in-GoesOn.ensures.ok (nothing_fails space new c.consistent-in-GoesOn.ensures))

pub tell_part-requires : goal.tell_part-requires
tell_part-requires c = commit_there c.args.statements.now c.args.space.now c.args.index _ c.args.levels.now (rw c.in-Tells.is at c.in_ok-choice.ensures.commits)

pub returns-in-Tells-clause-ok : goal.returns-in-Tells-clause-ok
returns-in-Tells-clause-ok c =
    on_ok c.tell_part.result (commit_left c.args.statements.now c.args.space.now c.args.index _ c.args.levels.now c.tell_part.new.levels (rw c.in-Tells.is at c.in_ok-choice.ensures.commits)) c.tell_part.ensures.ok
