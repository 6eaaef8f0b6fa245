use Rattle.std.proofs.Common.{◌∙◌, ap, List, take}
use Rattle.oz_semantics.specs.declared.configuration.Propagator.{Propagator}
use Rattle.space_core.proofs.ConstraintLaws.{fewer_watched}
use Rattle.space_core.proofs.constraints.Constraints.keep_first.Goals as goal

pub invariant_of-self : goal.invariant_of-self
invariant_of-self c =
    fewer_watched c.self.inside.store c.self.inside.propagators c.from_vec.result c.self.inside.watch c.self.inside.watched c.args.count c.lesser-watched.result c.self.invariant
    (c.from_vec.ensures ∙ c.truncate.ensures.items ∙ ap (λ (ps : List Propagator). take c.args.count ps) (c.into_vec-kept.ensures ∙ c.replace.ensures.value))
    c.lesser-watched.ensures.left c.lesser-watched.ensures.right c.kept_first.ensures
