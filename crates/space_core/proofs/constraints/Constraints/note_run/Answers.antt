use Rattle.std.proofs.Common.{◌∙◌, ap, List, length, subst, take}
use Rattle.oz_semantics.specs.declared.configuration.Propagator.{Propagator}
use Rattle.watching.specs.Watching.{Knows}
use Rattle.space_core.specs.Constraints.{noting_last}
use Rattle.space_core.proofs.ConstraintLaws.{at_length, first_part, noted_watched}
use Rattle.space_core.proofs.constraints.Constraints.note_run.Goals as goal

pub slice_bounds-watched-end : goal.slice_bounds-watched-end
slice_bounds-watched-end c =
    first_part c.self.inside.watched c.self.inside.propagators c.as_slice.result.now
    (ap (λ (ps : List Propagator). length ps) (c.as_slice.ensures ∙ c.note_at.ensures) ∙ at_length c.args.index (noting_last c.args.seen) c.self.inside.propagators) c.self.invariant.within

pub invariant_of-self : goal.invariant_of-self
invariant_of-self c =
    noted_watched c.self.inside.store c.self.inside.propagators c.self.inside.watch c.ran.new.self c.settle.new.self c.self.inside.watched c.args.index c.args.seen c.self.invariant c.ran.ensures
    c.note_at.new.propagators c.note_at.ensures
    (subst (λ (ps : List Propagator). Knows c.self.inside.store (take c.self.inside.watched ps) c.ran.new.self → Knows c.self.inside.store (take c.self.inside.watched ps) c.settle.new.self) c.as_slice.ensures c.settle.ensures)
