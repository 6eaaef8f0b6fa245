use Rattle.search_crew.proofs.PartLaws.{objects_send, objects_sync}
use Rattle.search_crew.proofs.crossing.objects_cross.Goals as goal

pub returns-clause-send : goal.returns-clause-send
returns-clause-send c = objects_send c.ident_lists_cross.ensures.send

pub returns-clause-sync : goal.returns-clause-sync
returns-clause-sync c = objects_sync c.ident_lists_cross.ensures.sync
