use Rattle.std.proofs.Common.{◌∙◌, sym}
use Rattle.oz_semantics.specs.Names.{is_properly_below}
use Rattle.space_core.specs.Shown.{shown}
use Rattle.oz_semantics.specs.declared.configuration.Layer.{Layer}
use Rattle.space_core.proofs.AnyLaws.{any_shown}
use Rattle.space_core.proofs.homes.has_below.Goals as goal

pub returns : goal.returns
returns c = c.any_below.ensures ∙ sym (any_shown shown (λ (l : Layer). is_properly_below c.args.space.now l.space) c.args.levels.now)
