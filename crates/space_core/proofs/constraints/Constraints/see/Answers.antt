use Rattle.std.proofs.Common.{List, subst, take}
use Rattle.oz_semantics.specs.declared.configuration.Propagator.{Propagator}
use Rattle.watching.specs.Watching.{Knows}
use Rattle.space_core.proofs.ConstraintLaws.{all_watched}
use Rattle.space_core.proofs.constraints.Constraints.see.Goals as goal

pub invariant_of-self : goal.invariant_of-self
invariant_of-self c =
    all_watched c.args.store c.self.inside.propagators c.settle.new.self c.len-self-inside.result c.len-self-inside.ensures
    (subst (λ (ps : List Propagator). Knows c.args.store ps c.watch_from.new.watch → Knows c.args.store ps c.settle.new.self) c.as_slice-2.ensures c.settle.ensures
    (subst (λ (ps : List Propagator). Knows c.args.store (take 0 ps) c.new.result → Knows c.args.store ps c.watch_from.new.watch) c.as_slice.ensures c.watch_from.ensures (c.new.ensures.knows c.args.store)))
