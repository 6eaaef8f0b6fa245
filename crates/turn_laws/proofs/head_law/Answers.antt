use Rattle.turn_laws.proofs.HeadLaws.{kept_goes_on, kept_head, kept_changes, kept_stack}
use Rattle.turn_laws.proofs.head_law.Goals as goal

pub returns : goal.returns
returns c = record { goes_on = kept_goes_on; head = kept_head; changes = kept_changes; stack = kept_stack }
