use Rattle.std.proofs.lemmas.Result.{IfOk-weaker}
use Rattle.command_line.proofs.Builds.{adds_rule, stays_local}
use Rattle.command_line.proofs.commands.run.Goals as goal

pub returns-clause-app : goal.returns-clause-app
returns-clause-app c = IfOk-weaker c.arg.result _ _ (λ new h. adds_rule _ _ new _ _ c.new.ensures.app c.budget.ensures.rule c.budget.ensures.local h) c.arg.ensures

pub returns-clause-local : goal.returns-clause-local
returns-clause-local c = IfOk-weaker c.arg.result _ _ (λ new h. stays_local _ _ new c.new.ensures.local c.budget.ensures.local h) c.arg.ensures
