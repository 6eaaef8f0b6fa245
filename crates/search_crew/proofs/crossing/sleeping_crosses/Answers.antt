use Rattle.search_crew.proofs.PartLaws.{sleeping_send, sleeping_sync}
use Rattle.search_crew.proofs.crossing.sleeping_crosses.Goals as goal

pub returns-clause-send : goal.returns-clause-send
returns-clause-send c = sleeping_send c.names_cross.ensures.send c.sleepers_cross.ensures.send

pub returns-clause-sync : goal.returns-clause-sync
returns-clause-sync c = sleeping_sync c.names_cross.ensures.sync c.sleepers_cross.ensures.sync
