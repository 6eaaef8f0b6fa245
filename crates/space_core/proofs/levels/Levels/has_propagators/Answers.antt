use Rattle.std.proofs.Common.{ap, ◌∙◌}
use Rattle.space_core.specs.Propagators.{has_propagators}
use Rattle.space_core.specs.Shown.{shown_all}
use Rattle.space_core.proofs.levels.Levels.has_propagators.Goals as goal

pub returns : goal.returns
returns c = c.has_propagators.ensures ∙ ap (λ ls. has_propagators (shown_all ls)) c.as_slice.ensures.value ∙ ap has_propagators c.self.view_is
