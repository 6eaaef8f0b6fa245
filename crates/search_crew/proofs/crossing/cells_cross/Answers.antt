use Rattle.search_crew.proofs.PartLaws.{cell_send, cell_sync}
use Rattle.search_crew.proofs.crossing.cells_cross.Goals as goal

pub returns-clause-send : goal.returns-clause-send
returns-clause-send c = cell_send c.ident_crosses.ensures.send c.class_domains_cross.ensures.send c.class_domains_cross.ensures.sync

pub returns-clause-sync : goal.returns-clause-sync
returns-clause-sync c = cell_sync c.ident_crosses.ensures.sync c.class_domains_cross.ensures.send c.class_domains_cross.ensures.sync
