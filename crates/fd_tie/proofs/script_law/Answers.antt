use Rattle.fd_tie.proofs.TieLaws.{tie}
use Rattle.fd_tie.proofs.script_law.Goals as goal

pub returns : goal.returns
returns c = tie
