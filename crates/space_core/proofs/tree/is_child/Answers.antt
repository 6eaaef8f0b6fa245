use Rattle.std.proofs.Common.{ℕ, List, sym, ap₂, ◌∙◌}
use Rattle.oz_base.specs.Lists.{list_eq}
use Rattle.oz_semantics.specs.Names.{parent_of}
use Rattle.space_core.proofs.ParentLaws.{not_empty}
use Rattle.space_core.proofs.SpaceEditLaws.{child_is}
use Rattle.space_core.proofs.tree.is_child.Goals as goal

pub returns-then-not-is_top : goal.returns-then-not-is_top
returns-then-not-is_top c =
    c.is_front.ensures ∙ ap₂ (λ (p q : List ℕ). list_eq p (parent_of q)) c.as_slice.ensures c.as_slice-then-not-is_top.ensures
    ∙ child_is c.args.parent.now c.args.child.now (not_empty c.args.child.now (sym c.is_top.ensures ∙ c.if-not-is_top.true))
