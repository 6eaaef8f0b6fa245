use Rattle.inside_laws.proofs.StepLaws.{steps_stay_inside, layers_stay, runs_stay_inside, run_layers_stay}
use Rattle.inside_laws.proofs.inside_law.Goals as goal

pub returns : goal.returns
returns c = record { steps = steps_stay_inside; layers = layers_stay; runs = runs_stay_inside; run_layers = run_layers_stay }
