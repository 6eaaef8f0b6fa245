use Rattle.std.proofs.Common.{true, subst}
use Rattle.oz_base.specs.declared.names.Ident.{Ident}
use Rattle.oz_semantics.specs.Answers.{Injects}
use Rattle.space_core.specs.SpaceEdits.{IsEdited}
use Rattle.oz_machine.proofs.editing.inject.Goals as goal

pub returns-clause-ok : goal.returns-clause-ok
returns-clause-ok c = subst (λ (p : Ident). IsEdited c.args.id.now (Injects c.args.child.now p) c.args.levels.now c.inject.new.self true) c.in_ok-copied.ensures c.in_ok-inject.ensures.ok
