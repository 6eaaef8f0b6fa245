use Rattle.search_crew.proofs.PartLaws.{classes_send, classes_sync}
use Rattle.search_crew.proofs.crossing.classes_cross.Goals as goal

pub returns-clause-send : goal.returns-clause-send
returns-clause-send c = classes_send c.cells_cross.ensures.send c.cells_cross.ensures.sync

pub returns-clause-sync : goal.returns-clause-sync
returns-clause-sync c = classes_sync c.cells_cross.ensures.send c.cells_cross.ensures.sync
