use Rattle.std.proofs.Common.{sym, ap, subst, ◌∙◌}
use Rattle.need_laws.specs.Needs.{has_triggers}
use Rattle.view_laws.specs.Spaceless.{has_spaces}
use Rattle.space_core.specs.Shown.{shown_all, IsSound}
use Rattle.space_core.proofs.levels.Levels.is_plain.Goals as goal

pub returns-clause-triggers : goal.returns-clause-triggers
returns-clause-triggers c = λ e.
    ap has_triggers (sym c.self.view_is)
    ∙ ap (λ ls. has_triggers (shown_all ls)) (sym c.as_slice.ensures.value)
    ∙ c.are_plain.ensures.triggers e

pub returns-clause-spaces : goal.returns-clause-spaces
returns-clause-spaces c = λ e.
    ap has_spaces (sym c.self.view_is)
    ∙ ap (λ ls. has_spaces (shown_all ls)) (sym c.as_slice.ensures.value)
    ∙ c.are_plain.ensures.spaces (subst IsSound (sym c.as_slice.ensures.value) c.self.invariant) e
