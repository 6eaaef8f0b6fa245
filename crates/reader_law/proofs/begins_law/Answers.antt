use Rattle.reader_law.proofs.Exact.{begins_law}
use Rattle.reader_law.proofs.begins_law.Goals as goal

pub returns : goal.returns
returns c = begins_law
