use Rattle.fd_opening.proofs.ScriptLaws.{top_rests}
use Rattle.fd_opening.proofs.rests_law.Goals as goal

pub returns : goal.returns
returns c = top_rests
