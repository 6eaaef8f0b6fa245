use Rattle.std.proofs.Common.{◌||◌, ◌∙◌, Bool, List, sym, ap}
use Rattle.std.specs.List.{list_any}
use Rattle.oz_semantics.specs.Configurations.{view, ancestor_variables}
use Rattle.oz_semantics.specs.declared.configuration.Propagator.{Propagator}
use Rattle.oz_semantics.specs.declared.configuration.Thread.{Thread}
use Rattle.stability.specs.Known.{known}
use Rattle.stability.specs.Waits.{undecided_waits}
use Rattle.stability.proofs.ReadyLaws.{thread_waits, waits_open}
use Rattle.stability.proofs.waits.open_waits.Goals as goal

pub returns-then-branch : goal.returns-then-branch
returns-then-branch c =
    λ l e is_open_now.
    let waits = thread_waits c.args.statements.now c.args.levels.now (known c.args.levels.now c.args.states.now) c.args.space.now l in
    let held = ancestor_variables c.args.levels.now c.args.space.now in
    ap (λ (b : Bool). b || list_any (undecided_waits (view c.args.levels.now l.space) held) l.propagators)
    (sym c.if-branch.true ∙ c.in_ok-any_waits.ensures l e ∙ ap (λ (ts : List Thread). list_any waits ts) (c.threads_at-threads.ensures l e))
    ∙ waits_open c.args.statements.now c.args.levels.now (known c.args.levels.now c.args.states.now) held l is_open_now

pub returns : goal.returns
returns c =
    λ l e is_open_now.
    let waits = thread_waits c.args.statements.now c.args.levels.now (known c.args.levels.now c.args.states.now) c.args.space.now l in
    let held = ancestor_variables c.args.levels.now c.args.space.now in
    c.any_propagator_waits.ensures l e
    ∙ ap (λ (ps : List Propagator). list_any (undecided_waits (view c.args.levels.now l.space) held) ps) (c.propagators_at-propagators.ensures l e)
    ∙ ap (λ (b : Bool). b || list_any (undecided_waits (view c.args.levels.now l.space) held) l.propagators)
    (sym c.if-branch.false ∙ c.in_ok-any_waits.ensures l e ∙ ap (λ (ts : List Thread). list_any waits ts) (c.threads_at-threads.ensures l e))
    ∙ waits_open c.args.statements.now c.args.levels.now (known c.args.levels.now c.args.states.now) held l is_open_now
