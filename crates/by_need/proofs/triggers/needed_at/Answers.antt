use Rattle.std.proofs.Common.{◌∙◌, ap, sym, List, map, false}
use Rattle.std.specs.List.{flat_map}
use Rattle.oz_semantics.specs.Configurations.{view, is_open}
use Rattle.oz_semantics.specs.Triggers.{is_needed}
use Rattle.oz_semantics.specs.declared.configuration.Thread.{Thread}
use Rattle.oz_semantics.specs.declared.configuration.Trigger.{Trigger}
use Rattle.stability.specs.Known.{known}
use Rattle.by_need.proofs.WaitLaws.{same_marks, thread_waits, needed_open, needed_ended}
use Rattle.by_need.proofs.triggers.needed_at.Goals as goal

pub returns-then-is_open : goal.returns-then-is_open
returns-then-is_open c =
    λ serves l e.
    let layers = c.args.levels.now in
    let states = known layers c.args.states.now in
    same_marks c.needed_for.result
    (ap (λ (ts : List Thread). map (is_needed (view layers l.space) (flat_map (thread_waits c.args.statements.now layers states l) ts)) c.triggers_at-triggers.result.now) (c.threads_at.ensures l e)
    ∙ ap (λ (ts : List Trigger). map (is_needed (view layers l.space) (flat_map (thread_waits c.args.statements.now layers states l) l.threads)) ts) (c.triggers_at-triggers.ensures l e)
    ∙ needed_open c.args.statements.now layers l states serves (ap is_open (sym (c.status_at.ensures l e)) ∙ sym c.is_open.ensures ∙ c.if-is_open.true))
    (c.needed_for.ensures l e)

pub returns : goal.returns
returns c =
    λ serves l e. same_marks c.unneeded.result
    (ap (λ (ts : List Trigger). map (λ (t : Trigger). false) ts) (c.triggers_at-triggers.ensures l e)
    ∙ needed_ended c.args.statements.now c.args.levels.now l (ap is_open (sym (c.status_at.ensures l e)) ∙ sym c.is_open.ensures ∙ c.if-is_open.false))
    c.unneeded.ensures
