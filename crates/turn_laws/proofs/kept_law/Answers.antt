use Rattle.turn_laws.proofs.HeadLaws.{kept_layers, kept_shown}
use Rattle.turn_laws.proofs.KeptLaws.{kept_turn, kept_step, kept_run, kept_opening, kept_root, kept_chosen}
use Rattle.turn_laws.proofs.kept_law.Goals as goal

pub returns : goal.returns
returns c = record { layers = kept_layers; shown = kept_shown; turn = kept_turn; step = kept_step; run = kept_run; opening = kept_opening; root = kept_root; chosen = kept_chosen }
