use Rattle.machine_search.proofs.SpaceLaws.{script_law}
use Rattle.machine_search.proofs.script_law.Goals as goal

pub returns : goal.returns
returns c = script_law
