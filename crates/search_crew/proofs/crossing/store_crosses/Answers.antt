use Rattle.search_crew.proofs.PartLaws.{store_send, store_sync}
use Rattle.search_crew.proofs.crossing.store_crosses.Goals as goal

pub returns-clause-send : goal.returns-clause-send
returns-clause-send c = store_send c.tells_cross.ensures.send c.tells_cross.ensures.sync c.classes_cross.ensures.send

pub returns-clause-sync : goal.returns-clause-sync
returns-clause-sync c = store_sync c.tells_cross.ensures.send c.tells_cross.ensures.sync c.classes_cross.ensures.sync
