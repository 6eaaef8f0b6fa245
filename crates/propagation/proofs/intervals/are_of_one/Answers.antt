use Rattle.propagation.proofs.DueLaws.{more_than_one}
use Rattle.propagation.proofs.intervals.are_of_one.Goals as goal

pub returns-then-intervals-ne1 : goal.returns-then-intervals-ne1
returns-then-intervals-ne1 c = more_than_one c.args.intervals.now (record { low = c.args.integer; high = c.args.integer }) c.if-intervals-ne1.true
