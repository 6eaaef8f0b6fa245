use Rattle.std.proofs.Common.{sym, ap, ◌∙◌}
use Rattle.oz_semantics.specs.Spaces.{state_by}
use Rattle.stability.specs.Known.{known}
use Rattle.stability.proofs.ReadyLaws.{same_ok}
use Rattle.stability.proofs.state.state_at.Goals as goal

pub returns-in-Open : goal.returns-in-Open
returns-in-Open c =
    λ l e.
    let is_open_now = sym (c.status_at.ensures l e) ∙ c.in-Open.is in
    same_ok c.open_state.result (sym (ap (state_by c.args.statements.now c.args.levels.now (known c.args.levels.now c.args.states.now) l) is_open_now)) (c.open_state.ensures l e is_open_now)
