use Rattle.std.proofs.Common.{◌≡◌, drop}
use Rattle.std.specs.List.{list_any}
use Rattle.oz_semantics.specs.Configurations.{view, ancestor_variables}
use Rattle.oz_semantics.specs.Spaces.{is_held}
use Rattle.space_core.specs.Levels.{OfLayer}
use Rattle.stability.proofs.waits.any_held.Given as goal

-- those passed so far are not
abbrev pub invariant-loop-variable : goal.invariant-loop-variable
invariant-loop-variable l =
    OfLayer l.levels l.place (λ m. list_any (is_held (view l.levels m.space) (ancestor_variables l.levels l.space)) (drop l.variable-index l.waits)
    ≡ list_any (is_held (view l.levels m.space) (ancestor_variables l.levels l.space)) l.waits)
