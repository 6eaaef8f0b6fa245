use Rattle.turn_laws.proofs.NumberedLaws.{edits_numbered}
use Rattle.turn_laws.proofs.OrderlyLaws.{changes_orderly, done_orderly, stack_orderly, created_orderly, committed_orderly, fired_orderly}
use Rattle.turn_laws.proofs.HeadLaws.{mover_alone}
use Rattle.turn_laws.proofs.orderly_law.Goals as goal

pub returns : goal.returns
returns c =
    record { numbered = edits_numbered; changes = changes_orderly; done = done_orderly; stack = stack_orderly; created = created_orderly; committed = committed_orderly; fired = fired_orderly; mover = mover_alone }
