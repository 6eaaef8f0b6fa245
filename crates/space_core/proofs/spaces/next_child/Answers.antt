use Rattle.std.proofs.Common.{◌∙◌}
use Rattle.space_core.proofs.SpaceEditLaws.{next_child_is}
use Rattle.space_core.proofs.spaces.next_child.Goals as goal

pub returns : goal.returns
returns c =
    c.in_ok-name.ensures
    ∙ next_child_is c.args.levels.now c.args.parent.now c.in-Some.place c.in-Some.ensures c.space_at.result.now c.next_at-next.result c.space_at.ensures c.next_at-next.ensures
