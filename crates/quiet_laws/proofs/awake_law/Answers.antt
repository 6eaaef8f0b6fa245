use Rattle.quiet_laws.proofs.QuietLaws.{changes_awake, stack_awake}
use Rattle.quiet_laws.proofs.ToldLaws.{tell_awake}
use Rattle.quiet_laws.proofs.awake_law.Goals as goal

pub returns : goal.returns
returns c = record { changes = changes_awake; stack = stack_awake; tell = tell_awake }
