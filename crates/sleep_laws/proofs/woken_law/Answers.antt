use Rattle.sleep_laws.proofs.RequeueLaws.{requeued_told}
use Rattle.sleep_laws.proofs.WokenLaws.{woken_others}
use Rattle.sleep_laws.proofs.WakesLaws.{tell_wakes, tell_wakes_awake}
use Rattle.sleep_laws.proofs.woken_law.Goals as goal

pub returns : goal.returns
returns c = record { others = woken_others; requeues = requeued_told; tell = tell_wakes; awake = tell_wakes_awake }
