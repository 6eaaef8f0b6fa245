use Rattle.settle_laws.proofs.OpeningLaws.{opening_sound}
use Rattle.settle_laws.proofs.TreeSteps.{opening_tree, opening_left}
use Rattle.settle_laws.proofs.TurnLaws.{opening_exact}
use Rattle.settle_laws.proofs.opening_law.Goals as goal

pub returns : goal.returns
returns c = record { sound = opening_sound; tree = opening_tree; left = opening_left; exact = opening_exact }
