use Rattle.std.proofs.Common.{sym, ◌∙◌}
use Rattle.stability.specs.Known.{known}
use Rattle.stability.proofs.StateLaws.{running}
use Rattle.stability.proofs.state.open_state.Goals as goal

pub returns-then-branch : goal.returns-then-branch
returns-then-branch c =
    λ l e is_open_now. running c.args.statements.now c.args.levels.now (known c.args.levels.now c.args.states.now) l (sym (c.in_ok-subtree_goes_on.ensures l e) ∙ c.if-branch.true)

pub returns : goal.returns
returns c = λ l e is_open_now. c.rested_open.ensures l e is_open_now (sym (c.in_ok-subtree_goes_on.ensures l e) ∙ c.if-branch.false)
