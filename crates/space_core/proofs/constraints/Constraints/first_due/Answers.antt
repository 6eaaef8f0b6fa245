use Rattle.std.proofs.Common.{◌≡◌, List, Some, subst, take}
use Rattle.std.specs.Prelude.{position}
use Rattle.oz_semantics.specs.Propagation.{is_due}
use Rattle.oz_semantics.specs.declared.configuration.Propagator.{Propagator}
use Rattle.watching.specs.Watching.{Knows}
use Rattle.space_core.specs.Constraints.{Held}
use Rattle.space_core.proofs.ConstraintLaws.{found_front}
use Rattle.space_core.proofs.constraints.Constraints.first_due.Goals as goal

pub returns-in-Some : goal.returns-in-Some
returns-in-Some c =
    let store = c.self.inside.store in
    let watched = c.self.inside.watched in
    subst (λ (h : Held). Some c.in-Some.index ≡ position (is_due h.store) h.propagators) c.self.view_is
    (found_front (is_due store) watched c.self.inside.propagators c.in-Some.index
    (subst (λ (ps : List Propagator). Knows store (take watched ps) c.self.inside.watch → Some c.in-Some.index ≡ position (is_due store) (take watched ps)) c.as_slice-propagators.ensures c.in-Some.ensures c.self.invariant.knows))
