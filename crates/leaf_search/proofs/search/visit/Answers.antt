use Rattle.std.proofs.Common.{◌∙◌}
use Rattle.leaf_search.proofs.Visiting.{visited, no_node, unprinted}
use Rattle.leaf_search.proofs.search.visit.Goals as goal

pub returns-in_default-clause-finds : goal.returns-in_default-clause-finds
returns-in_default-clause-finds c =
    no_node c.args.machine c.run.new.self c.args.space.now c.args.fuel c.in_ok-ran.ran c.if-fuel-eq0.false c.in_ok-ran.ensures.run c.in_ok-ran.ensures.kernel (rw c.in_default.is at c.at_rest.ensures)

pub returns-in_default-2-clause-finds : goal.returns-in_default-2-clause-finds
returns-in_default-2-clause-finds c =
    unprinted c.args.machine c.run.new.self c.args.space.now c.args.fuel c.in_ok-ran.ran c.in-Some.rest c.if-fuel-eq0.false c.in_ok-ran.ensures.run c.in_ok-ran.ensures.kernel c.in-Some.ensures
    (rw c.in_default-2.is at c.in_ok-text.ensures)

pub returns-clause-finds : goal.returns-clause-finds
returns-clause-finds c =
    visited c.args.machine c.run.new.self c.args.space.now c.args.fuel c.in_ok-ran.ran c.in-Some.rest c.in-Some-2.text _ _ _ _ c.if-fuel-eq0.false
    c.in_ok-ran.ensures.run c.in_ok-ran.ensures.kernel c.in-Some.ensures (rw c.in-Some-2.is at c.in_ok-text.ensures)
    (c.in_ok-keep.ensures.opened c.args.space.now) c.in_ok-keep.ensures.leaves

pub returns-clause-kernel : goal.returns-clause-kernel
returns-clause-kernel c k are same = c.in_ok-keep.ensures.kernel k are (c.in_ok-ran.ensures.kernel ∙ same)
