use Rattle.std.proofs.Common.{sym, ◌∙◌}
use Rattle.space_core.proofs.PlainLaws.{none_known, plain_known, plain_waits}
use Rattle.space_core.proofs.plain.are_plain.Goals as goal

pub returns-clause-triggers : goal.returns-clause-triggers
returns-clause-triggers c = λ e. plain_waits c.args.levels.now (sym c.all_plain.ensures ∙ e)

pub returns-clause-spaces : goal.returns-clause-spaces
returns-clause-spaces c = λ s e. none_known c.args.levels.now s (plain_known c.args.levels.now (sym c.all_plain.ensures ∙ e))
