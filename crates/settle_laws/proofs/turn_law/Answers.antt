use Rattle.settle_laws.proofs.TurnLaws.{settled_exact, step_exact, turn_exact, followed_exact, root_exact, chosen_exact, cost_law, turn_cost}
use Rattle.settle_laws.proofs.turn_law.Goals as goal

pub returns : goal.returns
returns c =
    record { settled = settled_exact; step = step_exact; turn = turn_exact; followed = followed_exact; root = root_exact; chosen = chosen_exact; cost = cost_law; turn_cost = turn_cost }
