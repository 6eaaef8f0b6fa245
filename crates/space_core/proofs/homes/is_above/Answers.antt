use Rattle.std.proofs.Common.{◌∙◌, sym}
use Rattle.space_core.proofs.TopLaws.{top_above}
use Rattle.space_core.proofs.homes.is_above.Goals as goal

pub returns-then-is_top : goal.returns-then-is_top
returns-then-is_top c = sym (top_above c.args.space.now c.args.other.now (sym c.is_top.ensures ∙ c.if-is_top.true))
