use Rattle.std.proofs.Common.{sym, ◌∙◌}
use Rattle.oz_semantics.specs.Propagation.{is_due}
use Rattle.space_core.proofs.ConstraintLaws.{none_front, none_yet, found_here, found_none}
use Rattle.space_core.proofs.constraints.first_from.Goals as goal

pub rest-init : goal.rest-init
rest-init c = none_front (is_due c.args.store.now) c.args.from c.args.propagators.now

pub rest-preserved : goal.rest-preserved
rest-preserved c = λ none. none_yet (is_due c.args.store.now) c.args.propagators.now c.rest.index c.rest-test.true c.index-propagators-index.result c.index-propagators-index.is (sym c.is_due.ensures ∙ c.if-is_due.false) (c.rest.invariant none)

pub returns-then-is_due : goal.returns-then-is_due
returns-then-is_due c = λ none. found_here (is_due c.args.store.now) c.args.propagators.now c.rest.index c.rest-test.true c.index-propagators-index.result c.index-propagators-index.is (sym c.is_due.ensures ∙ c.if-is_due.true) (c.rest.invariant none)

pub returns : goal.returns
returns c = λ none. found_none (is_due c.args.store.now) c.args.propagators.now c.rest.index c.rest-test.false (c.rest.invariant none)
