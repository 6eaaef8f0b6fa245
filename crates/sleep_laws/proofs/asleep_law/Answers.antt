use Rattle.sleep_laws.proofs.AsleepLaws.{asleep_rests, stays_asleep}
use Rattle.sleep_laws.proofs.LeftLaws.{told_left, changes_left, stack_left}
use Rattle.sleep_laws.proofs.asleep_law.Goals as goal

pub returns : goal.returns
returns c = record { rests = asleep_rests; stays = stays_asleep; told = told_left; quiet = changes_left; stack = stack_left }
