use Rattle.std.proofs.Common.{sym, subst}
use Rattle.std.specs.Prelude.{IfOk}
use Rattle.oz_semantics.specs.Answers.{TakesIn}
use Rattle.builtins.specs.Answers.{edit_of}
use Rattle.builtins.specs.declared.answer.Edit.{Edit}
use Rattle.space_core.specs.SpaceEdits.{IsEditedBy}
use Rattle.oz_machine.proofs.EditingLaws.{by_these}
use Rattle.oz_machine.proofs.editing.edit.Goals as goal

pub returns-in-TakesIn-clause-ok : goal.returns-in-TakesIn-clause-ok
returns-in-TakesIn-clause-ok c =
    let st = c.args.statements.now in
    let id = c.args.id.now in
    let old = c.args.levels.now in
    let new = c.take_in.new.levels in
    subst (λ (e : Edit). IfOk c.take_in.result (IsEditedBy st id (edit_of e) old new)) (sym c.in-TakesIn.is)
    (by_these st id (TakesIn c.in-TakesIn.space c.in-TakesIn.variable) old new c.take_in.result c.take_in.ensures.ok)
