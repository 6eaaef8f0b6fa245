use Rattle.std.proofs.Common.{sym, ◌∙◌, arith}
use Rattle.space_core.proofs.SightLaws.{parent_shorter, sees_parent}
use Rattle.space_core.proofs.ParentLaws.{not_empty}
use Rattle.space_core.proofs.SilentLaws.{has_parent}
use Rattle.space_core.proofs.sights.+store_of.Goals as goal

pub store_of-requires : goal.store_of-requires
store_of-requires t c =
    let less = parent_shorter c.args.levels.now c.args.level.now c.in-Some.parent c.in-Some.ensures c.index-levels-parent.result c.index-levels-parent.is (sym c.is_top.ensures ∙ c.if-is_top.false) in
    (omega (arith, less, c.decreases), tt)

pub returns-in-None : goal.returns-in-None
returns-in-None t c = λ s m. absurd (has_parent c.args.levels.now s c.args.level.now m (not_empty c.args.level.now.space (sym c.is_top.ensures ∙ c.if-is_top.false)) c.in-None.ensures)

pub returns-in-Some : goal.returns-in-Some
returns-in-Some t c =
    sees_parent c.args.levels.now c.args.level.now c.in-Some.parent c.in-Some.ensures c.index-levels-parent.result c.index-levels-parent.is c.if-not-level.false c.store_of.result.now c.store_of.ensures
