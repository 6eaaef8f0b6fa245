use Rattle.search_crew.proofs.PartLaws.{tell_send, tell_sync}
use Rattle.search_crew.proofs.crossing.tells_cross.Goals as goal

pub returns-clause-send : goal.returns-clause-send
returns-clause-send c = tell_send c.ident_crosses.ensures.send c.values_cross.ensures.send c.intervals_cross.ensures.send

pub returns-clause-sync : goal.returns-clause-sync
returns-clause-sync c = tell_sync c.ident_crosses.ensures.sync c.values_cross.ensures.sync c.intervals_cross.ensures.sync
