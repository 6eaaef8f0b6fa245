use Rattle.std.proofs.Common.{◌∙◌, sym, not}
use Rattle.oz_base.specs.Lists.{is_empty}
use Rattle.oz_semantics.specs.declared.configuration.Layer.{Layer}
use Rattle.space_core.specs.Shown.{shown}
use Rattle.space_core.proofs.AnyLaws.{any_shown}
use Rattle.space_core.proofs.posting.has_propagators.Goals as goal

pub returns : goal.returns
returns c = c.any_level.ensures ∙ sym (any_shown shown (λ (l : Layer). not (is_empty l.propagators)) c.args.levels.now)
