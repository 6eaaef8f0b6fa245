use Rattle.unneeded_laws.proofs.UnneededLaws.{tell_needs_below, tell_needs_none, run_needs_below}
use Rattle.unneeded_laws.proofs.told_law.Goals as goal

pub returns : goal.returns
returns c = record { below = tell_needs_below; alone = tell_needs_none; run = run_needs_below }
