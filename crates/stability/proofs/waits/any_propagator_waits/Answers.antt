use Rattle.std.proofs.Common.{sym, ◌∙◌, arith}
use Rattle.oz_semantics.specs.Configurations.{view, ancestor_variables}
use Rattle.stability.specs.Waits.{undecided_waits}
use Rattle.stability.proofs.Among.{read_found, read_left, any_end}
use Rattle.stability.proofs.waits.any_propagator_waits.Goals as goal

pub returns-then-propagator_waits : goal.returns-then-propagator_waits
returns-then-propagator_waits c =
    λ l e. read_found (undecided_waits (view c.args.levels.now l.space) (ancestor_variables c.args.levels.now c.args.space.now)) c.args.propagators.now c.loop-propagator.propagator-index c.propagator-item.result _
    (omega arith) c.propagator-item.is (c.loop-propagator.invariant l e) (sym c.if-propagator_waits.true ∙ c.propagator_waits.ensures l e)

pub loop-propagator-preserved : goal.loop-propagator-preserved
loop-propagator-preserved c =
    λ l e. read_left (undecided_waits (view c.args.levels.now l.space) (ancestor_variables c.args.levels.now c.args.space.now)) c.args.propagators.now c.loop-propagator.propagator-index c.propagator-item.result _
    (omega arith) c.propagator-item.is (c.loop-propagator.invariant l e) (sym c.if-propagator_waits.false ∙ c.propagator_waits.ensures l e)

pub returns : goal.returns
returns c =
    λ l e. any_end (undecided_waits (view c.args.levels.now l.space) (ancestor_variables c.args.levels.now c.args.space.now)) c.args.propagators.now c.loop-propagator.propagator-index _ (omega arith)
    (c.loop-propagator.invariant l e)
