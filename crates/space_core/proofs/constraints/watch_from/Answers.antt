use Rattle.std.proofs.Common.{ap, sym, ◌∙◌}
use Rattle.oz_semantics.specs.declared.configuration.Propagator.{Propagator}
use Rattle.space_core.proofs.ConstraintLaws.{watched_more}
use Rattle.space_core.proofs.constraints.watch_from.Goals as goal

pub rest-preserved : goal.rest-preserved
rest-preserved c = λ k.
    watched_more c.args.store.now c.args.propagators.now c.rest.index c.rest-test.true c.index-propagators-index.result c.index-propagators-index.is c.as_slice-variables.result.now
    (c.as_slice-variables.ensures ∙ ap (λ (p : Propagator). p.variables) (sym c.index-propagators-index.is)) c.rest.watch c.posted.new.self c.ran.new.self c.posted.ensures c.ran.ensures (c.rest.invariant k)
