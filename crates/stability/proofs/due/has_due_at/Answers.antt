use Rattle.std.proofs.Common.{◌∙◌, ap}
use Rattle.std.specs.Prelude.{is_some}
use Rattle.oz_semantics.specs.Configurations.{view}
use Rattle.stability.proofs.DueLaws.{due_any}
use Rattle.stability.proofs.due.has_due_at.Goals as goal

pub returns : goal.returns
returns c = λ l e. c.is_some.ensures ∙ ap is_some (c.due_at.ensures l e) ∙ due_any (view c.args.levels.now l.space) l
