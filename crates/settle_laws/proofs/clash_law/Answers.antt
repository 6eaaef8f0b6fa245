use Rattle.settle_laws.proofs.ClashLaws.{clash_fails, tells_after}
use Rattle.settle_laws.proofs.clash_law.Goals as goal

pub returns : goal.returns
returns c = record { fails = clash_fails; after = tells_after }
