use Rattle.recompute.proofs.WayLaws.{popped_from}
use Rattle.recompute.proofs.explorer.drop_last.Goals as goal

pub returns-clause-way : goal.returns-clause-way
returns-clause-way g c m o along = popped_from g.K.SearchKind.search m o c.args.way.now.items c.pop.new.self.items c.in-Some.node c.in-Some.ensures.items along
