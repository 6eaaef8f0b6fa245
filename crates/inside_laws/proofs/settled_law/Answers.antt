use Rattle.inside_laws.proofs.SettledLaws.{kept_settled, left_as_they_are}
use Rattle.inside_laws.proofs.settled_law.Goals as goal

pub returns : goal.returns
returns c = record { kept = kept_settled; left = left_as_they_are }
