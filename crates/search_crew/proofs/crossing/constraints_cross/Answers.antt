use Rattle.search_crew.proofs.PartLaws.{constraints_send, constraints_sync}
use Rattle.search_crew.proofs.crossing.constraints_cross.Goals as goal

pub returns-clause-send : goal.returns-clause-send
returns-clause-send c = constraints_send c.ident_crosses.ensures.send c.store_crosses.ensures.send c.propagators_cross.ensures.send c.watch_crosses.ensures.send

pub returns-clause-sync : goal.returns-clause-sync
returns-clause-sync c = constraints_sync c.ident_crosses.ensures.sync c.store_crosses.ensures.sync c.propagators_cross.ensures.sync c.watch_crosses.ensures.sync
