use Rattle.std.proofs.Common.{rules, ◌∙◌}
use Rattle.std.specs.Ordering.{nat_cmp}
use Rattle.std.specs.Cmp.Lexicographic.{slice_cmp}
use Rattle.std.proofs.lemmas.Fn.{always_returns_same}
use Rattle.space_core.specs.declared.level.Level.{Level}
use Rattle.space_core.proofs.HalvingLaws.{halves}
use Rattle.space_core.proofs.looking.inner_position.Goals as goal

pub returns : goal.returns
returns c =
    let facts = c.binary_search_by.ensures in
    let by_order = facts.position (λ (l : Level). slice_cmp nat_cmp l.space c.args.space.now) (always_returns_same _ _ _ (λ a r f called. search rules)) in
    c.ok.ensures.value ∙ halves c.args.levels.now c.args.space.now c.binary_search_by.result c.requires.tree.ordered facts.bound by_order
