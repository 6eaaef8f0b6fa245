use Rattle.search_crew.proofs.PartLaws.{sleepers_send, sleepers_sync}
use Rattle.search_crew.proofs.crossing.sleepers_cross.Goals as goal

pub returns-clause-send : goal.returns-clause-send
returns-clause-send c = sleepers_send c.ident_lists_cross.ensures.send c.number_lists_cross.ensures.send c.number_lists_cross.ensures.sync

pub returns-clause-sync : goal.returns-clause-sync
returns-clause-sync c = sleepers_sync c.ident_lists_cross.ensures.sync c.number_lists_cross.ensures.send c.number_lists_cross.ensures.sync
