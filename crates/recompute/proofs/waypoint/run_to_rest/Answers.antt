use Rattle.std.proofs.Common.{◌∙◌, sym}
use Rattle.recompute.proofs.NodeLaws.{solves}
use Rattle.recompute.proofs.waypoint.run_to_rest.Goals as goal

pub returns : goal.returns
returns c = (
  solves c.args.machine.now c.run.new.self c.args.space.now c.args.fuel c.in_ok-ran.ran c.in-Some.rest c.in-Some-2.text c.in-Some-3.kind c.if-fuel-eq0.false
      c.in_ok-ran.ensures.run c.in_ok-ran.ensures.kernel c.in-Some.ensures (rw c.in-Some-2.is at c.in_ok-text.ensures) (sym c.in_ok-kind.ensures ∙ c.in-Some-3.is),
  c.in_ok-ran.ensures.kernel,
)
