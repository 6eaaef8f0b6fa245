use Rattle.edit_laws.proofs.CopyLaws.{copied_tree}
use Rattle.edit_laws.proofs.NumberedLaws.{copied_numbered}
use Rattle.edit_laws.proofs.TopLaws.{copied_top}
use Rattle.edit_laws.proofs.copy_law.Goals as goal

pub returns : goal.returns
returns c = record { tree = copied_tree; numbered = copied_numbered; top = copied_top }
