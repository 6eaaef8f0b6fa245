use Rattle.std.proofs.Common.{◌∙◌, sym}
use Rattle.space_core.specs.Shown.{shown_all}
use Rattle.space_core.proofs.BehindLaws.{next_tells}
use Rattle.space_core.proofs.homes.has_next_below.Goals as goal

pub returns-in-Some : goal.returns-in-Some
returns-in-Some c =
    c.is_next_below.ensures ∙ sym (next_tells c.args.space.now (shown_all c.args.levels.now) c.in-Some.place c.requires.tree.ordered (sym c.level_position.ensures ∙ c.in-Some.is))
