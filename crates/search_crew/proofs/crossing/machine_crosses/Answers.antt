use Rattle.search_crew.proofs.PartLaws.{machine_send, machine_sync}
use Rattle.search_crew.proofs.crossing.machine_crosses.Goals as goal

pub returns-clause-send : goal.returns-clause-send
returns-clause-send c = machine_send c.kernel_crosses.ensures.send c.levels_cross.ensures.send c.queue_crosses.ensures.send c.ident_crosses.ensures.send c.optional_idents_cross.ensures.send c.thread_numbers_cross.ensures.send c.shown_crosses.ensures.send c.sleeping_crosses.ensures.send

pub returns-clause-sync : goal.returns-clause-sync
returns-clause-sync c = machine_sync c.kernel_crosses.ensures.sync c.levels_cross.ensures.sync c.queue_crosses.ensures.sync c.ident_crosses.ensures.sync c.optional_idents_cross.ensures.sync c.thread_numbers_cross.ensures.sync c.shown_crosses.ensures.sync c.sleeping_crosses.ensures.sync
