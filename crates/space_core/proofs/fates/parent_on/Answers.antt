use Rattle.std.proofs.Common.{sym, ◌∙◌}
use Rattle.space_core.proofs.ParentLaws.{parent_by}
use Rattle.space_core.proofs.fates.parent_on.Goals as goal

pub returns-then-is_parent_at-clause-place : goal.returns-then-is_parent_at-clause-place
returns-then-is_parent_at-clause-place c = parent_by c.args.levels.now _ c.args.space.now (sym c.is_parent_at.ensures ∙ c.if-is_parent_at.true)
