use Rattle.std.proofs.Common.{◌∙◌}
use Rattle.oz_semantics.specs.Configurations.{is_of}
use Rattle.space_core.specs.Shown.{shown}
use Rattle.space_core.proofs.Firsts.{position_shown}
use Rattle.space_core.proofs.looking.changed_position.Goals as goal

pub returns : goal.returns
returns c = c.position_in.ensures ∙ position_shown shown (is_of c.args.space.now) c.args.levels.now
