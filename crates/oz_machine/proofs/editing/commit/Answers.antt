use Rattle.oz_machine.proofs.EditingLaws.{commit_done}
use Rattle.oz_machine.proofs.editing.commit.Goals as goal

pub returns-clause-ok : goal.returns-clause-ok
returns-clause-ok c =
    commit_done c.args.statements.now c.args.id.now c.args.levels.now c.args.child.now c.args.index (c.has_child.ensures.child c.if-not-has_child.false) c.in-Some.place c.in-Some.ensures c.store_at.result.now c.store_at.ensures
    c.consistent.ensures c.commit_in.new.levels c.pop-statement.new.self c.in_ok-commit_in.ensures.ok c.pop-statement.ensures.popped
