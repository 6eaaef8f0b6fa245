use Rattle.std.proofs.Common.{◌||◌, ◌∙◌, Bool, List, sym, ap}
use Rattle.std.specs.List.{list_any}
use Rattle.oz_semantics.specs.Configurations.{view}
use Rattle.oz_semantics.specs.Spaces.{has_due}
use Rattle.oz_semantics.specs.declared.configuration.Thread.{Thread}
use Rattle.stability.specs.Known.{known}
use Rattle.stability.proofs.ReadyLaws.{goes_open, thread_steps}
use Rattle.stability.proofs.activity.open_goes_on.Goals as goal

pub returns-then-branch : goal.returns-then-branch
returns-then-branch c =
    λ l e is_open_now.
    let steps = thread_steps c.args.statements.now c.args.levels.now (known c.args.levels.now c.args.states.now) l in
    ap (λ (b : Bool). b || has_due (view c.args.levels.now l.space) l) (sym c.if-branch.true ∙ c.in_ok-any_steps.ensures l e ∙ ap (λ (ts : List Thread). list_any steps ts) (c.threads_at-threads.ensures l e))
    ∙ goes_open c.args.statements.now c.args.levels.now (known c.args.levels.now c.args.states.now) l is_open_now

pub returns : goal.returns
returns c =
    λ l e is_open_now.
    let steps = thread_steps c.args.statements.now c.args.levels.now (known c.args.levels.now c.args.states.now) l in
    c.has_due_at.ensures l e
    ∙ ap (λ (b : Bool). b || has_due (view c.args.levels.now l.space) l) (sym c.if-branch.false ∙ c.in_ok-any_steps.ensures l e ∙ ap (λ (ts : List Thread). list_any steps ts) (c.threads_at-threads.ensures l e))
    ∙ goes_open c.args.statements.now c.args.levels.now (known c.args.levels.now c.args.states.now) l is_open_now
