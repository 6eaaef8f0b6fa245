use Rattle.search_crew.proofs.PartLaws.{watch_send, watch_sync}
use Rattle.search_crew.proofs.crossing.watch_crosses.Goals as goal

pub returns-clause-send : goal.returns-clause-send
returns-clause-send c = watch_send c.ident_lists_cross.ensures.send c.index_lists_cross.ensures.send c.index_lists_cross.ensures.sync c.indices_cross.ensures.send

pub returns-clause-sync : goal.returns-clause-sync
returns-clause-sync c = watch_sync c.ident_lists_cross.ensures.sync c.index_lists_cross.ensures.send c.index_lists_cross.ensures.sync c.indices_cross.ensures.sync
