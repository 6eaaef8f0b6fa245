use Rattle.search_crew.proofs.PartLaws.{levels_send, levels_sync}
use Rattle.search_crew.proofs.crossing.levels_cross.Goals as goal

pub returns-clause-send : goal.returns-clause-send
returns-clause-send c = levels_send c.names_cross.ensures.send c.status_crosses.ensures.send c.constraints_cross.ensures.send c.idents_cross.ensures.send c.threads_cross.ensures.send c.triggers_cross.ensures.send c.objects_cross.ensures.send

pub returns-clause-sync : goal.returns-clause-sync
returns-clause-sync c = levels_sync c.names_cross.ensures.sync c.status_crosses.ensures.sync c.constraints_cross.ensures.sync c.idents_cross.ensures.sync c.threads_cross.ensures.sync c.triggers_cross.ensures.sync c.objects_cross.ensures.sync
