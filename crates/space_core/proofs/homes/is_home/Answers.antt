use Rattle.std.proofs.Common.{◌∙◌, ◌&&◌, sym}
use Rattle.oz_semantics.specs.Names.{is_below}
use Rattle.space_core.specs.Shown.{shown, gave_out}
use Rattle.oz_semantics.specs.declared.configuration.Layer.{Layer}
use Rattle.space_core.proofs.AnyLaws.{any_shown}
use Rattle.space_core.proofs.homes.is_home.Goals as goal

pub returns : goal.returns
returns c = c.any_home.ensures ∙ sym (any_shown shown (λ (l : Layer). gave_out c.args.variable.now l && is_below l.space c.args.space.now) c.args.levels.now)
