use Rattle.turn_laws.proofs.TellingLaws.{tell_queue}
use Rattle.turn_laws.proofs.telling_law.Goals as goal

pub returns : goal.returns
returns c = record { queue = tell_queue }
