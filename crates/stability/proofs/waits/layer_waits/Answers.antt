use Rattle.std.proofs.Common.{sym, ap, ◌∙◌}
use Rattle.oz_semantics.specs.Configurations.{is_open, ancestor_variables}
use Rattle.stability.specs.Known.{known}
use Rattle.stability.proofs.ReadyLaws.{not_open, waits_closed}
use Rattle.stability.proofs.waits.layer_waits.Goals as goal

pub returns-in-Open : goal.returns-in-Open
returns-in-Open c = λ l e. c.open_waits.ensures l e (sym (c.status_at.ensures l e) ∙ c.in-Open.is)

pub returns-in-Failed : goal.returns-in-Failed
returns-in-Failed c =
    λ l e. waits_closed c.args.statements.now c.args.levels.now (known c.args.levels.now c.args.states.now) (ancestor_variables c.args.levels.now c.args.space.now) l
    (ap is_open (sym (c.status_at.ensures l e)) ∙ not_open c.status_at.result.now c.in-Failed.is)
