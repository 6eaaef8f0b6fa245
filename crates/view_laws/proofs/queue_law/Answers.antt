use Rattle.view_laws.proofs.QueueLaws.{queue_exact, queue_once, queue_tells}
use Rattle.view_laws.proofs.QuietLaws.{quiet_queue}
use Rattle.view_laws.proofs.queue_law.Goals as goal

pub returns : goal.returns
returns c = record { exact = queue_exact; once = queue_once; tells = queue_tells; quiet = quiet_queue }
