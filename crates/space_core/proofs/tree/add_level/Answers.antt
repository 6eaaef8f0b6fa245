use Rattle.space_core.proofs.TreeAnswers.{added_last, added_before}
use Rattle.space_core.proofs.tree.add_level.Goals as goal

pub returns-in_ok-push-in-None-clause-ok : goal.returns-in_ok-push-in-None-clause-ok
returns-in_ok-push-in-None-clause-ok c = added_last c.args.levels.now.items c.as_slice.result.now c.push.new.self.items c.args.level c.as_slice.ensures.value c.in-None.ensures c.in_ok-push-in-None.ensures.items

pub returns-in_ok-insert-in-Some-clause-ok : goal.returns-in_ok-insert-in-Some-clause-ok
returns-in_ok-insert-in-Some-clause-ok c =
    added_before c.args.levels.now.items c.as_slice.result.now c.insert.new.self.items c.args.level c.in-Some.place c.as_slice.ensures.value c.in-Some.ensures c.in_ok-insert-in-Some.ensures.items
