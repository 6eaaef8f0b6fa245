use Rattle.std.proofs.Common.{◌∙◌}
use Rattle.oz_semantics.specs.Names.{space_lt}
use Rattle.oz_semantics.specs.declared.configuration.Layer.{Layer}
use Rattle.space_core.specs.Shown.{shown}
use Rattle.space_core.proofs.Firsts.{found_at, position_shown}
use Rattle.space_core.proofs.tree.greater_place.Goals as goal

pub returns : goal.returns
returns c =
    found_at _ _ _ (c.greater_position.ensures ∙ position_shown shown (λ (other : Layer). space_lt c.args.space.now other.space) c.args.levels.now)
