use Rattle.edit_laws.proofs.MergeLaws.{taken_tree}
use Rattle.edit_laws.proofs.NumberedLaws.{taken_numbered}
use Rattle.edit_laws.proofs.TopLaws.{taken_top}
use Rattle.edit_laws.proofs.merge_law.Goals as goal

pub returns : goal.returns
returns c = record { tree = taken_tree; numbered = taken_numbered; top = taken_top }
