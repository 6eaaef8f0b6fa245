use Rattle.quiet_laws.proofs.UnknownLaws.{none_given, none_below}
use Rattle.quiet_laws.proofs.unknown_law.Goals as goal

pub returns : goal.returns
returns c = record { given = none_given; below = none_below }
