use Rattle.recompute.proofs.WayLaws.{popped_from, reported}
use Rattle.recompute.proofs.explorer.last_report.Goals as goal

pub returns-in-End-clause-way : goal.returns-in-End-clause-way
returns-in-End-clause-way g c m o along = popped_from g.K.SearchKind.search m o c.args.way.now.items c.pop.new.self.items c.in-Some.node c.in-Some.ensures.items along

pub returns-in-End-clause-report : goal.returns-in-End-clause-report
returns-in-End-clause-report g c m o fuel = reported g.K.SearchKind.search m o fuel c.args.way.now.items c.pop.new.self.items c.in-Some.node _ c.in-Some.ensures.items c.in-End.is

pub returns-in_ok-push-in-Alternatives-clause-report : goal.returns-in_ok-push-in-Alternatives-clause-report
returns-in_ok-push-in-Alternatives-clause-report g c m o fuel = reported g.K.SearchKind.search m o fuel c.args.way.now.items c.pop.new.self.items c.in-Some.node _ c.in-Some.ensures.items c.in-Alternatives.is
