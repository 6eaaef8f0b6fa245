use Rattle.std.proofs.Common.{sym, ◌∙◌}
use Rattle.space_core.proofs.PlainLaws.{none_known}
use Rattle.space_core.proofs.plain.has_spaces.Goals as goal

pub returns : goal.returns
returns c = λ s e. none_known c.args.levels.now s (sym c.any_knows.ensures ∙ e)
