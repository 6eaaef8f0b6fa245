use Rattle.std.proofs.Common.{◌≡◌, drop}
use Rattle.std.specs.List.{list_any}
use Rattle.oz_semantics.specs.Configurations.{view, ancestor_variables}
use Rattle.space_core.specs.Levels.{OfLayer}
use Rattle.stability.specs.Waits.{undecided_waits}
use Rattle.stability.proofs.waits.any_propagator_waits.Given as goal

-- those passed so far do not
abbrev pub invariant-loop-propagator : goal.invariant-loop-propagator
invariant-loop-propagator l =
    OfLayer l.levels l.place (λ m. list_any (undecided_waits (view l.levels m.space) (ancestor_variables l.levels l.space)) (drop l.propagator-index l.propagators)
    ≡ list_any (undecided_waits (view l.levels m.space) (ancestor_variables l.levels l.space)) l.propagators)
