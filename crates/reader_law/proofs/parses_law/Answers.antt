use Rattle.reader_law.proofs.Exact.{parses_law}
use Rattle.reader_law.proofs.parses_law.Goals as goal

pub returns : goal.returns
returns c = parses_law
