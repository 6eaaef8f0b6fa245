use Rattle.std.proofs.Common.{List, ap, ◌∙◌}
use Rattle.std.specs.Prelude.{position}
use Rattle.oz_semantics.specs.Propagation.{is_due}
use Rattle.oz_semantics.specs.declared.value.Tell.{Tell}
use Rattle.space_core.proofs.sights.first_due_of.Goals as goal

pub returns : goal.returns
returns c = λ s m.
    c.first_due-2.ensures ∙ ap (λ (ts : List Tell). position (is_due ts) c.args.level.now.constraints.propagators) ((s.fits c.args.level.now m).seen c.if-level.false)
