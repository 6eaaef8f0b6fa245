use Rattle.std.proofs.Common.{sym, ap, subst, ◌∙◌}
use Rattle.view_laws.specs.Spaceless.{has_spaces}
use Rattle.space_core.specs.Shown.{shown_all, IsSound}
use Rattle.space_core.proofs.levels.Levels.has_spaces.Goals as goal

pub returns : goal.returns
returns c = λ e.
    ap has_spaces (sym c.self.view_is)
    ∙ ap (λ ls. has_spaces (shown_all ls)) (sym c.as_slice.ensures.value)
    ∙ c.has_spaces.ensures (subst IsSound (sym c.as_slice.ensures.value) c.self.invariant) e
