use Rattle.std.proofs.lemmas.Result.{IfOk-weaker}
use Rattle.stability.proofs.AlikeLaws.{same_serve, any_serve}
use Rattle.stability.proofs.behind.states_from.Goals as goal

pub returns-then-has_spaces : goal.returns-then-has_spaces
returns-then-has_spaces c = IfOk-weaker c.states_behind.result _ _ (λ states h. same_serve c.args.statements.now c.args.levels.now _ _ h) c.states_behind.ensures

pub returns-else-has_spaces : goal.returns-else-has_spaces
returns-else-has_spaces c = any_serve c.args.statements.now c.args.levels.now _ _ (c.has_spaces.ensures c.if-has_spaces.false)
