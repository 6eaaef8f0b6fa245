use Rattle.std.proofs.Common.{◌∙◌, sym, ap}
use Rattle.oz_semantics.specs.Configurations.{is_open, view}
use Rattle.stability.proofs.ReadyLaws.{not_open}
use Rattle.stability.proofs.DueLaws.{place_open, place_closed}
use Rattle.stability.proofs.due.due_at.Goals as goal

pub returns-in-Open : goal.returns-in-Open
returns-in-Open c =
    λ l e.
    c.first_due_at.ensures l e ∙ place_open (view c.args.levels.now l.space) l (sym (c.status_at.ensures l e) ∙ c.in-Open.is)

pub returns-in-Failed : goal.returns-in-Failed
returns-in-Failed c = λ l e. place_closed (view c.args.levels.now l.space) l (ap is_open (sym (c.status_at.ensures l e)) ∙ not_open c.status_at.result.now c.in-Failed.is)
