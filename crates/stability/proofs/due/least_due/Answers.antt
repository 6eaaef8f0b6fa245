use Rattle.std.proofs.Common.{◌∙◌, sym, arith}
use Rattle.stability.proofs.DueLaws.{no_least, least_here, least_later, least_end}
use Rattle.stability.proofs.due.least_due.Goals as goal

pub returns-then-not-has_propagators : goal.returns-then-not-has_propagators
returns-then-not-has_propagators c = no_least c.args.levels.now (sym c.has_propagators.ensures ∙ c.if-not-has_propagators.true)

pub returns-in-Some : goal.returns-in-Some
returns-in-Some c = least_here c.args.levels.now c.loop-place.place (omega arith) c.in-Some.index c.is_tree.ensures.ordered c.loop-place.invariant c.in-Some.ensures

pub loop-place-preserved : goal.loop-place-preserved
loop-place-preserved c = least_later c.args.levels.now c.loop-place.place (omega arith) c.loop-place.invariant c.in_default.ensures

pub returns : goal.returns
returns c = least_end c.args.levels.now c.loop-place.place (omega arith) c.loop-place.invariant
