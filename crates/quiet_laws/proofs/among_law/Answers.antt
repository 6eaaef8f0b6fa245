use Rattle.quiet_laws.proofs.ComeLaws.{above_top}
use Rattle.quiet_laws.proofs.QuietLaws.{changes_among, stack_among}
use Rattle.quiet_laws.proofs.ToldLaws.{tell_among}
use Rattle.quiet_laws.proofs.among_law.Goals as goal

pub returns : goal.returns
returns c = record { changes = changes_among; stack = stack_among; tell = tell_among; top = above_top }
