use Rattle.edit_laws.proofs.CopyLaws.{injected_tree}
use Rattle.edit_laws.proofs.NumberedLaws.{injected_numbered}
use Rattle.edit_laws.proofs.TopLaws.{injected_top}
use Rattle.edit_laws.proofs.injection_law.Goals as goal

pub returns : goal.returns
returns c = record { tree = injected_tree; numbered = injected_numbered; top = injected_top }
