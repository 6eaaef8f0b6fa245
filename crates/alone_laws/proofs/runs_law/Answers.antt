use Rattle.alone_laws.proofs.AloneRunLaws.{runs_alone, runs_same}
use Rattle.alone_laws.proofs.runs_law.Goals as goal

pub returns : goal.returns
returns c = record { turns = runs_alone; run = runs_same }
