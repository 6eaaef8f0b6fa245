use Rattle.std.proofs.Common.{ap, ◌∙◌}
use Rattle.need_laws.specs.Needs.{has_triggers}
use Rattle.space_core.specs.Shown.{shown_all}
use Rattle.space_core.proofs.levels.Levels.has_triggers.Goals as goal

pub returns : goal.returns
returns c = c.has_triggers.ensures ∙ ap (λ ls. has_triggers (shown_all ls)) c.as_slice.ensures.value ∙ ap has_triggers c.self.view_is
