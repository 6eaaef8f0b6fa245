use Rattle.top_laws.proofs.RestLaws.{root_rests, chosen_rests}
use Rattle.top_laws.proofs.RunLaws.{rests_law, turn_rests, turn_raises_nothing, run_rests, run_raises_nothing}
use Rattle.top_laws.proofs.top_law.Goals as goal

pub returns : goal.returns
returns c =
    record { rests = rests_law; root = root_rests; chosen = chosen_rests; turn = turn_rests; turn_raises = turn_raises_nothing; run = run_rests; run_raises = run_raises_nothing }
