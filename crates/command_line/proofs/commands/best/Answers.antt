use Rattle.std.proofs.lemmas.Result.{IfOk-weaker}
use Rattle.command_line.proofs.Builds.{adds_rule, stays_local}
use Rattle.command_line.proofs.commands.best.Goals as goal

pub returns-clause-app : goal.returns-clause-app
returns-clause-app c =
    let first = adds_rule _ _ _ _ _ c.new.ensures.app c.workers.ensures.rule c.workers.ensures.local c.in_ok-arg.ensures in
    IfOk-weaker c.arg-2.result _ _ (λ new h. adds_rule _ _ new _ _ first c.budget.ensures.rule c.budget.ensures.local h) c.arg-2.ensures

pub returns-clause-local : goal.returns-clause-local
returns-clause-local c =
    let first = stays_local _ _ _ c.new.ensures.local c.workers.ensures.local c.in_ok-arg.ensures in
    IfOk-weaker c.arg-2.result _ _ (λ new h. stays_local _ _ new first c.budget.ensures.local h) c.arg-2.ensures
