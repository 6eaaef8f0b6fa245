use Rattle.watching.proofs.watch.Watch.new.Goals as goal

pub returns-clause-knows : goal.returns-clause-knows
returns-clause-knows c = λ view e. c.new.ensures view
