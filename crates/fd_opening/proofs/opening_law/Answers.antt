use Rattle.fd_opening.proofs.ScriptLaws.{script_begins}
use Rattle.fd_opening.proofs.opening_law.Goals as goal

pub returns : goal.returns
returns c = script_begins
