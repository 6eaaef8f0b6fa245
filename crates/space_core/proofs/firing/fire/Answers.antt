use Rattle.std.proofs.Common.{refl, ap, ◌∙◌, List}
use Rattle.oz_semantics.specs.declared.configuration.Trigger.{Trigger}
use Rattle.space_core.specs.Firing.{marked, unmarked}
use Rattle.space_core.proofs.FiringLaws.{changed_err, nothing_changed, fired_result, changed_result}
use Rattle.space_core.proofs.firing.fire.Goals as goal

pub returns-in_err-begun-clause-err : goal.returns-in_err-begun-clause-err
returns-in_err-begun-clause-err c = changed_err c.from_residual.result _ _ (nothing_changed _ _ refl)

pub returns-in_err-level-clause-err : goal.returns-in_err-level-clause-err
returns-in_err-level-clause-err c = changed_err c.from_residual-in_err-level.result _ _ (nothing_changed _ _ refl)

pub returns-clause-ok : goal.returns-clause-ok
returns-clause-ok c =
    fired_result c.args.marks.now c.args.level.now _ _ _
    (c.as_slice-3.ensures ∙ c.in_ok-begun.ensures ∙ ap (λ (ts : List Trigger). marked c.args.marks.now ts) c.as_slice.ensures)
    (c.in_ok-level.ensures ∙ ap (λ (ts : List Trigger). unmarked c.args.marks.now ts) c.as_slice-2.ensures)
    c.begin_all.result c.begin_all.ensures.ok

pub returns-clause-err : goal.returns-clause-err
returns-clause-err c = changed_result _ _ _ c.begin_all.result c.begin_all.ensures.err
